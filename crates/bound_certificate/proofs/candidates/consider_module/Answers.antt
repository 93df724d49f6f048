use Rattle.std.proofs.Common.{◌≡◌, true, ◌∙◌, sym, refl}
use Rattle.plan_model.specs.declared.Why.TheVariants as why
use Rattle.soc_model.specs.Chips.{module_value, soc_value}
use Rattle.plan_model.specs.Views.{limits_value}
use Rattle.bound_certificate.specs.Best.{has_live_at}
use Rattle.bound_certificate.proofs.Considered.{seen_considered, value_considered, number_is, module_value_of, module_keeps}
use Rattle.bound_certificate.proofs.candidates.consider_module.Goals as goal

pub returns-clause-seen : goal.returns-clause-seen
returns-clause-seen c =
    let live : has_live_at (soc_value c.problem.inside.soc.now) c.args.place ≡ true = sym c.has_live_test.ensures ∙ c.if-not-has_live_test.false in
    let number = number_is (soc_value c.problem.inside.soc.now) c.args.place (module_value c.module_at.result.now) c.module_at.ensures in
    let is = c.from-shown.ensures ∙ c.module_bound.ensures.sum ∙ module_value_of (soc_value c.problem.inside.soc.now) (limits_value c.problem.inside.limits.now) c.args.place (module_value c.module_at.result.now) c.problem.invariant.sound c.module_at.ensures in
    let value = rw (← c.problem.view_is) at c.requires.value in
    rw (← c.problem.view_is, c.better_known.ensures, live, number) (seen_considered (soc_value c.problem.inside.soc.now) (limits_value c.problem.inside.limits.now) c.args.best c.from-shown.result (why.Module c.module_at.result.now.number) value is)

pub returns-clause-value : goal.returns-clause-value
returns-clause-value c =
    let is = c.from-shown.ensures ∙ c.module_bound.ensures.sum ∙ module_value_of (soc_value c.problem.inside.soc.now) (limits_value c.problem.inside.limits.now) c.args.place (module_value c.module_at.result.now) c.problem.invariant.sound c.module_at.ensures in
    let value = rw (← c.problem.view_is) at c.requires.value in
    rw (← c.problem.view_is, c.better_known.ensures) (value_considered (soc_value c.problem.inside.soc.now) (limits_value c.problem.inside.limits.now) c.args.best c.from-shown.result (why.Module c.module_at.result.now.number) value is (rw c.from-shown.ensures (c.module_bound.ensures.bound (limits_value c.problem.inside.limits.now) refl)) (module_keeps (soc_value c.problem.inside.soc.now) (limits_value c.problem.inside.limits.now) c.args.place c.from-shown.result (module_value c.module_at.result.now) c.problem.invariant.sound c.module_at.ensures))
