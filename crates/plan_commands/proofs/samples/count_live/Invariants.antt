use Rattle.std.proofs.Common.{◌≡◌, ◌≤◌, length, take, filter}
use Rattle.soc_model.specs.Chips.{module_value, is_live}
use Rattle.plan_commands.proofs.samples.count_live.Given as goal

abbrev pub invariant-loop-test : goal.invariant-loop-test
invariant-loop-test l = (l.count ≡ length (filter is_live (take l.test-index (module_value l.«module»).tests))) × (l.count ≤ l.test-index)
