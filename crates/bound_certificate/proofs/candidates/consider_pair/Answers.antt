use Rattle.std.proofs.Common.{◌≡◌, true, ◌∙◌, sym, refl, ◌&&◌}
use Rattle.soc_model.specs.Chips.{module_value, soc_value, parent_place}
use Rattle.plan_model.specs.Views.{limits_value}
use Rattle.plan_model.specs.Certificates.{passes}
use Rattle.bound_certificate.specs.Best.{has_live_at}
use Rattle.bound_certificate.proofs.Considered.{seen_considered, value_considered, number_is, pair_bound_of, pair_keeps}
use Rattle.plan_model.specs.declared.Why.TheVariants as why
use Rattle.bound_certificate.proofs.candidates.consider_pair.Goals as goal

pub returns-in-Some-clause-seen : goal.returns-in-Some-clause-seen
returns-in-Some-clause-seen c =
    let live : (has_live_at (soc_value c.problem.inside.soc.now) c.args.place && passes (has_live_at (soc_value c.problem.inside.soc.now)) (parent_place (soc_value c.problem.inside.soc.now).modules c.args.place)) ≡ true = sym c.has_live_family.ensures ∙ c.if-not-has_live_family.false in
    let number = number_is (soc_value c.problem.inside.soc.now) c.args.place (module_value c.module_at.result.now) c.module_at.ensures in
    let is = pair_bound_of (soc_value c.problem.inside.soc.now) (limits_value c.problem.inside.limits.now) c.args.place c.in-Some.shown (module_value c.module_at.result.now) c.problem.invariant.sound c.module_at.ensures c.in-Some.ensures.sum in
    let value = rw (← c.problem.view_is) at c.requires.value in
    rw (← c.problem.view_is, c.better_known.ensures, live, number) (seen_considered (soc_value c.problem.inside.soc.now) (limits_value c.problem.inside.limits.now) c.args.best c.from.result (why.Pair c.module_at.result.now.number) value (c.from.ensures ∙ is))

pub returns-in-Some-clause-value : goal.returns-in-Some-clause-value
returns-in-Some-clause-value c =
    let is = pair_bound_of (soc_value c.problem.inside.soc.now) (limits_value c.problem.inside.limits.now) c.args.place c.in-Some.shown (module_value c.module_at.result.now) c.problem.invariant.sound c.module_at.ensures c.in-Some.ensures.sum in
    let value = rw (← c.problem.view_is) at c.requires.value in
    rw (← c.problem.view_is, c.better_known.ensures) (value_considered (soc_value c.problem.inside.soc.now) (limits_value c.problem.inside.limits.now) c.args.best c.from.result (why.Pair c.module_at.result.now.number) value (c.from.ensures ∙ is) (rw c.from.ensures (c.in-Some.ensures.bound (limits_value c.problem.inside.limits.now) refl)) (pair_keeps (soc_value c.problem.inside.soc.now) (limits_value c.problem.inside.limits.now) c.args.place c.in-Some.shown (module_value c.module_at.result.now) c.problem.invariant.sound c.module_at.ensures c.in-Some.ensures.sum))
