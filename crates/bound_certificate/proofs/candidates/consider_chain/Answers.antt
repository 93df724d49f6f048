use Rattle.std.proofs.Common.{◌∙◌, sym, ap, refl, fold, sum_by}
use Rattle.soc_model.specs.Chips.{soc_value}
use Rattle.plan_model.specs.Views.{limits_value}
use Rattle.plan_model.specs.Certificates.{certificate_value, lower_of_id}
use Rattle.bound_certificate.specs.Best.{better, chain_why}
use Rattle.bound_certificate.specs.Winners.{seen, names_of}
use Rattle.bound_certificate.proofs.Considered.{seen_considered, value_considered}
use Rattle.plan_model.specs.declared.Why.TheVariants as why
use Rattle.bound_certificate.proofs.candidates.consider_chain.Goals as goal

pub returns-in-Some-clause-seen : goal.returns-in-Some-clause-seen
unfolding certificate_value
returns-in-Some-clause-seen c =
    let is = c.chain_bound-shown.ensures.sum ∙ ap (sum_by (lower_of_id (soc_value c.problem.inside.soc.now) c.problem.inside.limits.now.wires)) c.deref.ensures.value in
    let value = rw (← c.problem.view_is) at c.requires.value in
    rw (← c.problem.view_is) (rw c.better_known.ensures (seen_considered (soc_value c.problem.inside.soc.now) (limits_value c.problem.inside.limits.now) c.args.best c.chain_bound-shown.result (why.Chain c.in-Some.tests) value is)
    ∙ sym (ap (λ o. fold (better (certificate_value (soc_value c.problem.inside.soc.now) (limits_value c.problem.inside.limits.now))) (seen c.args.best) (chain_why (names_of o))) c.in-Some.is))

pub returns-in-Some-clause-value : goal.returns-in-Some-clause-value
unfolding certificate_value
returns-in-Some-clause-value c =
    let is = c.chain_bound-shown.ensures.sum ∙ ap (sum_by (lower_of_id (soc_value c.problem.inside.soc.now) c.problem.inside.limits.now.wires)) c.deref.ensures.value in
    let keeps = rw (← c.problem.view_is, c.in-Some.is) at c.requires.chain in
    let value = rw (← c.problem.view_is) at c.requires.value in
    rw (← c.problem.view_is, c.better_known.ensures) (value_considered (soc_value c.problem.inside.soc.now) (limits_value c.problem.inside.limits.now) c.args.best c.chain_bound-shown.result (why.Chain c.in-Some.tests) value is
    (c.chain_bound-shown.ensures.bound (limits_value c.problem.inside.limits.now) refl (rw (← c.deref.ensures.value) at keeps)) keeps)
