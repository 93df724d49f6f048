use Rattle.std.proofs.Common.{◌≡◌, ℕ, ◌+◌, ◌<◌, length, take, IfSome, All, filter}
use Rattle.soc_model.specs.Chips.{is_live}
use Rattle.arch_schedule.specs.Problems.{IsTimed}
use Rattle.arch_schedule.proofs.problem.push_tests.Given as goal

abbrev pub invariant-loop-test : goal.invariant-loop-test
invariant-loop-test l = record {
  timed : (modules : ℕ) → IfSome l.stands.number (λ m. m < modules) → All (IsTimed l.wires modules) l.initial.tests.items → All (IsTimed l.wires modules) l.tests.items;
  count : length l.tests.items ≡ length l.initial.tests.items + length (filter is_live (take l.test-index l.«module».tests.items));
}
