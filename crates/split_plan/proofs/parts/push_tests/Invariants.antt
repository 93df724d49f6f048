use Rattle.std.proofs.Common.{◌≡◌, ℕ, ◌++◌, map}
use Rattle.std.specs.List.{range_with_len}
use Rattle.split_plan.specs.Cuts.{part_test}
use Rattle.split_plan.proofs.parts.push_tests.Given as goal

abbrev pub invariant-loop-place : goal.invariant-loop-place
invariant-loop-place l = l.tests.items ≡ l.initial.tests.items ++ map part_test (map (λ (k : ℕ). (l.cut, k)) (range_with_len 0 l.place))
