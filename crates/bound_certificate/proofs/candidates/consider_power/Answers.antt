use Rattle.std.proofs.Common.{◌∙◌, sym, ap, fold}
use Rattle.soc_model.specs.Chips.{soc_value}
use Rattle.plan_model.specs.Views.{limits_value}
use Rattle.plan_model.specs.Certificates.{certificate_value}
use Rattle.bound_certificate.specs.Best.{better, power_why}
use Rattle.bound_certificate.specs.Winners.{seen}
use Rattle.bound_certificate.proofs.Considered.{seen_considered, value_considered}
use Rattle.plan_model.specs.declared.Why.TheVariants as why
use Rattle.bound_certificate.proofs.candidates.consider_power.Goals as goal

pub returns-in-Some-clause-seen : goal.returns-in-Some-clause-seen
unfolding certificate_value
returns-in-Some-clause-seen c =
    let value = rw (← c.problem.view_is) at c.requires.value in
    rw (← c.problem.view_is) (rw c.better_known.ensures (seen_considered (soc_value c.problem.inside.soc.now) (limits_value c.problem.inside.limits.now) c.args.best c.from-shown.result why.Power value (c.from-shown.ensures ∙ c.power_bound_with.ensures.quotient))
    ∙ sym (ap (λ o. fold (better (certificate_value (soc_value c.problem.inside.soc.now) (limits_value c.problem.inside.limits.now))) (seen c.args.best) (power_why o)) c.in-Some.is))

pub returns-in-Some-clause-value : goal.returns-in-Some-clause-value
unfolding certificate_value
returns-in-Some-clause-value c =
    let value = rw (← c.problem.view_is) at c.requires.value in
    rw (← c.problem.view_is, c.better_known.ensures) (value_considered (soc_value c.problem.inside.soc.now) (limits_value c.problem.inside.limits.now) c.args.best c.from-shown.result why.Power value (c.from-shown.ensures ∙ c.power_bound_with.ensures.quotient) (rw c.from-shown.ensures c.power_bound_with.ensures.bound) tt)
