use Rattle.soc_model.specs.SoundChips.{IsSoundChip}
use Rattle.plan_model.specs.SoundLimits.{IsSoundLimits}
use Rattle.plan_model.specs.Views.{bound_value}
use Rattle.planner.proofs.WholePlans.{cycles_bound, answer_of}
use Rattle.planner.proofs.planning.planned.Goals as goal

pub best_bound_with-requires : goal.best_bound_with-requires
best_bound_with-requires g c = record { good = cycles_bound c.args.problem.now.soc c.args.problem.now.limits c.in_ok-wiring.wiring c.in_ok-schedule.schedule c.in_ok-wiring.ensures c.in_ok-schedule.ensures }

pub returns : goal.returns
returns g c =
    let soc = c.args.problem.now.soc in
    let limits = c.args.problem.now.limits in
    let sound : IsSoundChip c.args.problem.now.soc = rw (← c.problem.view_is) c.problem.invariant.sound in
    let bounds : IsSoundLimits c.args.problem.now.soc c.args.problem.now.limits = rw (← c.problem.view_is) c.problem.invariant.bounds in
    answer_of soc limits c.in_ok-wiring.wiring c.in_ok-schedule.schedule c.in_ok-wiring.ensures c.in_ok-schedule.ensures sound bounds (bound_value c.in_ok-bound.bound)
    c.in_ok-bound.ensures.best c.in_ok-bound.ensures.accepted c.in_ok-bound.ensures.few c.in_ok-bound.ensures.numbers c.in_ok-bound.ensures.bound c.in_ok-bound.ensures.elementary (c.good_plans_run_right.ensures soc limits)
