use Rattle.std.proofs.Common.{◌∙◌, sym, ap, option_map, position, nat_eq, ℕ}
use Rattle.soc_model.specs.declared.Test.{Test}
use Rattle.soc_model.specs.Chips.{soc_value}
use Rattle.soc_model.proofs.Entries.{module-at}
use Rattle.soc_model.proofs.Places.{test_places-at}
use Rattle.soc_model.proofs.lookups.find_test.Goals as goal

pub returns-in_err-test : goal.returns-in_err-test
returns-in_err-test c =
    let soc = soc_value c.args.soc.now in
    let at = module-at c.args.soc.now.modules.entries c.in_ok-place.place _ (sym c.in_ok-module.ensures.entry) in
    let e = test_places-at soc c.args.id c.in_ok-place.place _ (sym c.place_of.ensures ∙ c.in_ok-place.was) at in
    c.from_residual-in_err-test.ensures ∙ sym (e ∙ ap (option_map (λ (n : ℕ). (c.in_ok-place.place, n))) (ap (position (λ (t : Test). nat_eq c.args.id.test t.number)) (sym c.deref.ensures.value) ∙ sym c.test_at.ensures ∙ c.in_err-test.was))

pub returns : goal.returns
returns c =
    let soc = soc_value c.args.soc.now in
    let at = module-at c.args.soc.now.modules.entries c.in_ok-place.place _ (sym c.in_ok-module.ensures.entry) in
    let e = test_places-at soc c.args.id c.in_ok-place.place _ (sym c.place_of.ensures ∙ c.in_ok-place.was) at in
    sym (e ∙ ap (option_map (λ (n : ℕ). (c.in_ok-place.place, n))) (ap (position (λ (t : Test). nat_eq c.args.id.test t.number)) (sym c.deref.ensures.value) ∙ sym c.test_at.ensures ∙ c.in_ok-test.was))
