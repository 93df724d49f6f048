use Rattle.std.proofs.Common.{◌≡◌, ℕ, ◌∙◌, sym, ap, subst, position, Some, None, List, [], ◌∷◌, IfOk}
use Rattle.soc_model.specs.Chips.{same_test}
use Rattle.plan_model.specs.declared.Profile.{Profile}
use Rattle.plan_model.specs.Plans.{ProfileValue}
use Rattle.plan_model.specs.Views.{profile_value}
use Rattle.plan_model.proofs.Finding.{of_first_found, of_first_missing}
use Rattle.planner.proofs.job.steps_of.Goals as goal

pub returns-in-Some : goal.returns-in-Some
returns-in-Some c =
    let at : position (λ (p : Profile). same_test p.test c.args.id) c.args.limits.now.profiles.items ≡ Some c.in-Some.place = ap (position (λ (p : Profile). same_test p.test c.args.id)) (sym c.deref.ensures.value) ∙ sym c.profile_place.ensures ∙ c.in-Some.is in
    let steps = of_first_found profile_value (λ (p : ProfileValue). same_test p.test c.args.id) (λ (p : ProfileValue). p.steps) ((0, c.args.own) ∷ []) c.args.limits.now.profiles.items c.in-Some.place c.index.result.now c.index.result.now at c.index.ensures in
    subst (λ (v : List (ℕ × ℕ)). IfOk c.copied.result (λ steps. steps.items ≡ v)) (c.deref-in-Some.ensures.value ∙ sym steps) c.copied.ensures

pub returns-in-None : goal.returns-in-None
returns-in-None c =
    let none : position (λ (p : Profile). same_test p.test c.args.id) c.args.limits.now.profiles.items ≡ None = ap (position (λ (p : Profile). same_test p.test c.args.id)) (sym c.deref.ensures.value) ∙ sym c.profile_place.ensures ∙ c.in-None.is in
    let own = of_first_missing profile_value (λ (p : ProfileValue). same_test p.test c.args.id) (λ (p : ProfileValue). p.steps) ((0, c.args.own) ∷ []) c.args.limits.now.profiles.items none in
    subst (λ (v : List (ℕ × ℕ)). IfOk c.one_step.result (λ steps. steps.items ≡ v)) (sym own) c.one_step.ensures
