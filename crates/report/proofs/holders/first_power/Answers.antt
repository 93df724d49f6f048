use Rattle.std.proofs.Common.{◌≡◌, ◌∙◌, ap, sym, position, Some, None}
use Rattle.soc_model.specs.Chips.{same_test}
use Rattle.plan_model.specs.declared.Profile.{Profile}
use Rattle.plan_model.specs.Plans.{ProfileValue, step_power}
use Rattle.plan_model.specs.Views.{profile_value}
use Rattle.plan_model.proofs.Finding.{of_first_found, of_first_missing}
use Rattle.report.proofs.holders.first_power.Goals as goal

pub returns-in-Some : goal.returns-in-Some
returns-in-Some c =
    let ps = c.args.limits.now.profiles.items in
    let id = c.args.test.now.id in
    let found : position (λ (p : Profile). same_test p.test id) ps ≡ Some c.in-Some.place = ap (position (λ (p : Profile). same_test p.test id)) (sym c.deref.ensures.value) ∙ sym c.profile_of.ensures ∙ c.in-Some.is in
    c.step_power.ensures ∙ ap (step_power 0 0) c.deref-in-Some.ensures.value
    ∙ sym (of_first_found profile_value (λ (p : ProfileValue). same_test p.test id) (λ (p : ProfileValue). step_power 0 0 p.steps) c.args.test.now.power ps c.in-Some.place c.index.result.now c.index.result.now found c.index.ensures)

pub returns-in-None : goal.returns-in-None
returns-in-None c =
    let ps = c.args.limits.now.profiles.items in
    let id = c.args.test.now.id in
    let none : position (λ (p : Profile). same_test p.test id) ps ≡ None = ap (position (λ (p : Profile). same_test p.test id)) (sym c.deref.ensures.value) ∙ sym c.profile_of.ensures ∙ c.in-None.is in
    sym (of_first_missing profile_value (λ (p : ProfileValue). same_test p.test id) (λ (p : ProfileValue). step_power 0 0 p.steps) c.args.test.now.power ps none)
