use Rattle.std.proofs.Common.{◌≡◌, ◌+◌, ◌*◌, ◌≤◌, ◌^◌, ◌++◌, drop, All}
use Rattle.soc_model.specs.Chips.{module_value}
use Rattle.plan_model.specs.Views.{limits_value}
use Rattle.split_plan.specs.Cuts.{cuts_from, cuts_in}
use Rattle.split_plan.specs.Steps.{HasRoom}
use Rattle.split_plan.proofs.cuts.cuts_in.Given as goal

abbrev pub invariant-loop-test : goal.invariant-loop-test
invariant-loop-test l =
    (l.cuts.items ++ cuts_from (limits_value l.limits) l.most l.module.number l.number (drop l.test-index l.module.tests.items) ≡ cuts_in (limits_value l.limits) l.most (module_value l.module))
    × (l.number ≤ 1 + 10 ^ 12 * l.test-index)
    × All HasRoom l.cuts.items
