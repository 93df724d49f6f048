use Rattle.std.proofs.Common.{◌≡◌, Some, sym, ap, ◌∙◌, subst, true≢false, slice_get}
use Rattle.soc_model.specs.Chips.{ModuleValue, soc_value, module_value}
use Rattle.plan_model.specs.Cells.{IsProper}
use Rattle.plan_model.specs.Views.{wrapper_value}
use Rattle.plan_checker.proofs.Finding.{number_at, some_same}
use Rattle.plan_checker.proofs.known.cells_fit.Goals as goal

pub returns-in-Some-clause-kept : goal.returns-in-Some-clause-kept
returns-in-Some-clause-kept c = λ yes' n m at number.
    let there = number_at (soc_value c.args.soc.now).modules n m at ∙ ap Some number in
    let one : n ≡ c.in-Some.place = c.requires.modules_differ n c.in-Some.place c.args.wrapper.now.«module» there c.in-Some.ensures.found in
    let here : slice_get (soc_value c.args.soc.now).modules c.in-Some.place ≡ Some m = rw one at at in
    let same : module_value c.module_at.result.now ≡ m = some_same (sym c.module_at.ensures ∙ here) in
    subst (λ (m : ModuleValue). IsProper m c.args.wrapper.now.scan (wrapper_value c.args.wrapper.now).chains) same (c.is_proper.ensures.proper yes')

pub returns-in-Some-clause-broken : goal.returns-in-Some-clause-broken
returns-in-Some-clause-broken c = λ no' fits.
    let number = some_same (sym (number_at (soc_value c.args.soc.now).modules c.in-Some.place (module_value c.module_at.result.now) c.module_at.ensures) ∙ c.in-Some.ensures.found) in
    true≢false (sym (c.is_proper.ensures.only (fits c.in-Some.place (module_value c.module_at.result.now) c.module_at.ensures number)) ∙ no')

pub returns-in-None-clause-kept : goal.returns-in-None-clause-kept
returns-in-None-clause-kept c = λ _ n m at number. absurd (c.in-None.ensures.none n m.number (number_at (soc_value c.args.soc.now).modules n m at) number)
