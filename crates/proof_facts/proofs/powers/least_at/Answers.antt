use Rattle.std.proofs.Common.{◌≡◌, ◌∙◌, ℕ, Some, None, List, map, position, sym, ap}
use Rattle.soc_model.specs.Chips.{same_test}
use Rattle.plan_model.specs.declared.Profile.{Profile}
use Rattle.plan_model.specs.Plans.{ProfileValue, smallest}
use Rattle.plan_model.specs.Views.{profile_value}
use Rattle.plan_model.proofs.Finding.{of_first_found, of_first_missing}
use Rattle.proof_facts.proofs.Smallest.{power}
use Rattle.proof_facts.proofs.powers.least_at.Goals as goal

pub returns-in-Some : goal.returns-in-Some
returns-in-Some c = λ id is.
    let found : position (λ (p : Profile). same_test p.test id) c.args.limits.now.profiles.items ≡ Some c.in-Some.place = sym is ∙ c.in-Some.is in
    c.least_of.ensures ∙ ap (λ (steps : List (ℕ × ℕ)). smallest (map power steps)) c.deref.ensures.value
    ∙ sym (of_first_found profile_value (λ (p : ProfileValue). same_test p.test id) (λ (p : ProfileValue). smallest (map power p.steps)) c.args.own c.args.limits.now.profiles.items c.in-Some.place c.index.result.now c.index.result.now found c.index.ensures)

pub returns-in-None : goal.returns-in-None
returns-in-None c = λ id is.
    let none : position (λ (p : Profile). same_test p.test id) c.args.limits.now.profiles.items ≡ None = sym is ∙ c.in-None.is in
    sym (of_first_missing profile_value (λ (p : ProfileValue). same_test p.test id) (λ (p : ProfileValue). smallest (map power p.steps)) c.args.own c.args.limits.now.profiles.items none)
