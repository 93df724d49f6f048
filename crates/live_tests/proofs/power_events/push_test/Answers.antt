use Rattle.std.proofs.Common.{◌≡◌, ◌∙◌, ◌++◌, sym, ap, position, Some, None}
use Rattle.std.proofs.lemmas.Result.{on_ok_weaker}
use Rattle.plan_model.specs.declared.Profile.{Profile}
use Rattle.soc_model.specs.Chips.{same_test}
use Rattle.live_tests.specs.Events.{step_events}
use Rattle.live_tests.proofs.Reading.{profile_steps, own_steps}
use Rattle.live_tests.proofs.power_events.push_test.Goals as goal

pub returns-in-Some : goal.returns-in-Some
returns-in-Some c =
    let t = c.args.test.now in
    let ps = c.args.limits.now.profiles.items in
    let found : position (λ (p : Profile). same_test p.test t.id) ps ≡ Some c.in-Some.place = ap (position (λ (p : Profile). same_test p.test t.id)) (sym c.deref.ensures.value) ∙ sym c.profile_place.ensures ∙ c.in-Some.is in
    let steps = c.deref-in-Some.ensures.value ∙ sym (profile_steps ps t.id t.power c.in-Some.place c.index.result.now found c.index.ensures) in
    on_ok_weaker c.push_steps.result (λ pushed. pushed ∙ ap (λ l. c.args.events.now.items ++ step_events t.start t.end 0 l) steps) c.push_steps.ensures

pub returns-in-None : goal.returns-in-None
returns-in-None c =
    let t = c.args.test.now in
    let ps = c.args.limits.now.profiles.items in
    let none : position (λ (p : Profile). same_test p.test t.id) ps ≡ None = ap (position (λ (p : Profile). same_test p.test t.id)) (sym c.deref.ensures.value) ∙ sym c.profile_place.ensures ∙ c.in-None.is in
    on_ok_weaker c.push_steps-in-None.result (λ pushed. pushed ∙ ap (λ l. c.args.events.now.items ++ step_events t.start t.end 0 l) (sym (own_steps ps t.id t.power none))) c.push_steps-in-None.ensures
