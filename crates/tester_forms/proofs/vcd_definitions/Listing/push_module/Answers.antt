use Rattle.std.proofs.Common.{◌≡◌, ◌+◌, ◌++◌, true, false, length, codes, decimal, refl, sym, ap, subst, ◌∙◌, arith}
use Rattle.std.specs.List.{filter, list_any}
use Rattle.soc_model.specs.Chips.{is_live, module_value}
use Rattle.soc_model.specs.Modes.{has_tam}
use Rattle.tester_forms.specs.declared.vcd_definitions.Listing.{Listing}
use Rattle.tester_forms.specs.Listings.{AreListed, IsListed}
use Rattle.tester_forms.specs.Variables.{live_of_module, one_if, run_variables, wired_variables}
use Rattle.tester_forms.proofs.Listed.{no_live, no_scope, no_tam, some_scope, scopes_none, scope_listed, listed_then}
use Rattle.tester_forms.proofs.vcd_definitions.Listing.push_module.Goals as goal

pub returns-then-not-has_live_test-clause-listed : goal.returns-then-not-has_live_test-clause-listed
returns-then-not-has_live_test-clause-listed c =
    let m = module_value c.args.module.now in
    let at = c.args.at in
    let none : list_any is_live m.tests ≡ false = sym c.has_live_test.ensures ∙ c.if-not-has_live_test.true in
    subst (λ ss. AreListed c.args.self.now c.args.self.now ss) (sym (no_scope m.number (run_variables m.number at.run (live_of_module m) ++ wired_variables m.number at.shift (at.shift + at.wired) (has_tam m)) m.tests none)) (scopes_none c.args.self.now)

pub returns-then-not-has_live_test-clause-run : goal.returns-then-not-has_live_test-clause-run
returns-then-not-has_live_test-clause-run c =
    let m = module_value c.args.module.now in
    let none : list_any is_live m.tests ≡ false = sym c.has_live_test.ensures ∙ c.if-not-has_live_test.true in
    let zero : length (live_of_module m) ≡ 0 = ap length (no_live m.tests none) in
    omega (arith, zero)

pub returns-then-not-has_live_test-clause-shift : goal.returns-then-not-has_live_test-clause-shift
returns-then-not-has_live_test-clause-shift c =
    let m = module_value c.args.module.now in
    let none : list_any is_live m.tests ≡ false = sym c.has_live_test.ensures ∙ c.if-not-has_live_test.true in
    let zero : one_if (has_tam m) ≡ 0 = ap one_if (no_tam m.tests none) in
    omega (arith, zero)

pub returns-clause-listed : goal.returns-clause-listed
returns-clause-listed c =
    let m = module_value c.args.module.now in
    let at = c.args.at in
    let old = c.args.self.now in
    let begun : Listing = record { text = c.push_scope.new.text; first = old.first; places = old.places } in
    let runs = run_variables m.number at.run (live_of_module m) in
    let wired = wired_variables m.number at.shift (at.shift + at.wired) (has_tam m) in
    let some : list_any is_live m.tests ≡ true = sym c.has_live_test.ensures ∙ c.if-not-has_live_test.false in
    let filled = c.push_any_wired.new.self in
    let ran = subst (λ tests. IsListed begun c.push_runs.new.self (run_variables m.number at.run (filter is_live tests))) c.deref.ensures.value c.in_ok-run.ensures.listed in
    let ended : Listing = record { text = c.extend.new.to; first = filled.first; places = filled.places } in
    subst (λ ss. AreListed old ended ss) (sym (some_scope m.number (runs ++ wired) m.tests some))
    (scope_listed old begun filled ended (codes "module_" ++ decimal m.number) (runs ++ wired) c.in_ok-push_scope.ensures refl refl (listed_then begun c.push_runs.new.self filled runs wired ran c.in_ok-shift.ensures.listed) c.in_ok-extend.ensures.ok refl refl)
