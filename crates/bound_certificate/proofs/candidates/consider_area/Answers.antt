use Rattle.std.proofs.Common.{◌∙◌, refl}
use Rattle.plan_model.specs.declared.Why.TheVariants as why
use Rattle.soc_model.specs.Chips.{soc_value}
use Rattle.plan_model.specs.Views.{limits_value}
use Rattle.plan_model.specs.Certificates.{certificate_value}
use Rattle.bound_certificate.proofs.Considered.{seen_considered, value_considered}
use Rattle.bound_certificate.proofs.candidates.consider_area.Goals as goal

pub returns-clause-seen : goal.returns-clause-seen
unfolding certificate_value
returns-clause-seen c =
    let value = rw (← c.problem.view_is) at c.requires.value in
    rw (← c.problem.view_is, c.better_known.ensures) (seen_considered (soc_value c.problem.inside.soc.now) (limits_value c.problem.inside.limits.now) c.args.best c.from.result why.Area value (c.from.ensures ∙ c.area_bound.ensures.quotient))

pub returns-clause-value : goal.returns-clause-value
unfolding certificate_value
returns-clause-value c =
    let value = rw (← c.problem.view_is) at c.requires.value in
    rw (← c.problem.view_is, c.better_known.ensures) (value_considered (soc_value c.problem.inside.soc.now) (limits_value c.problem.inside.limits.now) c.args.best c.from.result why.Area value (c.from.ensures ∙ c.area_bound.ensures.quotient) (rw c.from.ensures (c.area_bound.ensures.bound (limits_value c.problem.inside.limits.now) refl)) tt)
