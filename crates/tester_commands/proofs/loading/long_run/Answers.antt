use Rattle.soc_model.specs.Chips.{soc_value}
use Rattle.plan_model.specs.Views.{limits_value, plan_value}
use Rattle.tester_commands.proofs.loading.long_run.Goals as goal

pub cells_over-requires : goal.cells_over-requires
cells_over-requires c =
    let all = c.all.inside in
    c.good_without_limits.ensures.narrow (soc_value all.soc) (limits_value all.limits) (plan_value all.plan) c.all.invariant.problem.bounds c.all.invariant.accepted.0
