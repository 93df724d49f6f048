use Rattle.std.proofs.Common.{◌≡◌, ℕ, ◌∙◌, sym, ap, position, Some, None, List, [], ◌∷◌, map, nat_lt, find}
use Rattle.soc_model.specs.Chips.{same_test}
use Rattle.plan_model.specs.declared.Profile.{Profile}
use Rattle.plan_model.specs.Plans.{ProfileValue}
use Rattle.plan_model.specs.Views.{profile_value}
use Rattle.plan_model.proofs.Finding.{of_first_found, of_first_missing}
use Rattle.limits_text.proofs.refusals.passing_power.Goals as goal

pub returns-in-Some : goal.returns-in-Some
returns-in-Some c =
    let at : position (λ (p : Profile). same_test p.test c.args.id) c.args.profiles.now ≡ Some c.in-Some.place = sym c.profile_place.ensures ∙ c.in-Some.is in
    let steps = of_first_found profile_value (λ (p : ProfileValue). same_test p.test c.args.id) (λ (p : ProfileValue). map {A = ℕ × ℕ} (λ s. s.1) p.steps) (c.args.own ∷ []) c.args.profiles.now c.in-Some.place c.index-profiles-place.result c.index-profiles-place.result at c.index-profiles-place.is in
    c.passing_step.ensures ∙ ap (λ (l : List (ℕ × ℕ)). find (nat_lt c.args.most) (map {A = ℕ × ℕ} (λ s. s.1) l)) c.deref.ensures.value ∙ ap (λ (p : Profile). find (nat_lt c.args.most) (map {A = ℕ × ℕ} (λ s. s.1) p.steps.items)) (sym c.index-profiles-place.is) ∙ ap (find (nat_lt c.args.most)) (sym steps)

pub returns-in-None : goal.returns-in-None
returns-in-None c =
    let none : position (λ (p : Profile). same_test p.test c.args.id) c.args.profiles.now ≡ None = sym c.profile_place.ensures ∙ c.in-None.is in
    let own = of_first_missing profile_value (λ (p : ProfileValue). same_test p.test c.args.id) (λ (p : ProfileValue). map {A = ℕ × ℕ} (λ s. s.1) p.steps) (c.args.own ∷ []) c.args.profiles.now none in
    c.passing_alone.ensures ∙ ap (find (nat_lt c.args.most)) (sym own)
