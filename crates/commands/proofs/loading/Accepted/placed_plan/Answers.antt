use Rattle.std.proofs.Common.{◌≤◌, sum, arith}
use Rattle.soc_model.specs.Chips.{soc_value}
use Rattle.plan_model.specs.Plans.{widths}
use Rattle.plan_model.specs.Views.{limits_value, plan_value}
use Rattle.plan_model.proofs.GoodWithoutLimits.{good_alone}
use Rattle.plan_model.proofs.PowerAndAreaBounds.{widths_fit}
use Rattle.commands.proofs.loading.Accepted.placed_plan.Goals as goal

pub new-requires-clause-good : goal.new-requires-clause-good
new-requires-clause-good c =
    let a = c.self.inside in
    good_alone (soc_value a.soc) (limits_value a.limits) (plan_value a.plan) c.self.invariant.accepted.0

pub returns-clause-bounds : goal.returns-clause-bounds
returns-clause-bounds c = rw (c.new.ensures.chip, ← c.self.view_is) c.self.invariant.problem.bounds

pub returns-clause-good : goal.returns-clause-good
returns-clause-good c = rw (c.new.ensures.chip, c.new.ensures.plan, ← c.self.view_is) c.self.invariant.accepted.0

pub returns-clause-narrow : goal.returns-clause-narrow
returns-clause-narrow c =
    let a = c.self.inside in
    let few : sum (widths (plan_value a.plan)) ≤ 256 = omega (arith, c.self.invariant.problem.bounds.few_wires, widths_fit (soc_value a.soc) (limits_value a.limits) (plan_value a.plan) c.self.invariant.accepted.0) in
    rw c.new.ensures.plan few
