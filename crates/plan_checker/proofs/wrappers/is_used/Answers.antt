use Rattle.std.proofs.Common.{◌≡◌, Some, true, sym, ap, ◌∙◌, subst, true≢false, slice_get}
use Rattle.soc_model.specs.Chips.{ModuleValue, soc_value, module_value}
use Rattle.plan_model.specs.Rules.{uses_mode}
use Rattle.plan_checker.proofs.Finding.{number_at, some_same}
use Rattle.plan_checker.proofs.Pairing.{UsedAt, used_at, pair_there}
use Rattle.plan_checker.proofs.wrappers.is_used.Goals as goal

pub returns-in-Some-clause-used : goal.returns-in-Some-clause-used
returns-in-Some-clause-used c = λ yes'. pair_there (soc_value c.args.soc.now) c.in-Some.place (module_value c.module_at.result.now) c.args.number c.args.scan c.module_at.ensures c.in-Some.ensures.found (sym c.uses_mode.ensures ∙ yes')

pub returns-in-Some-clause-other : goal.returns-in-Some-clause-other
returns-in-Some-clause-other c = λ no' there.
    let u : UsedAt (soc_value c.args.soc.now) c.args.number c.args.scan = used_at (soc_value c.args.soc.now) c.args.number c.args.scan there in
    let one = c.requires.modules_differ u.p c.in-Some.place c.args.number (number_at (soc_value c.args.soc.now).modules u.p u.m u.at ∙ ap Some u.number_is) c.in-Some.ensures.found in
    let here : slice_get (soc_value c.args.soc.now).modules c.in-Some.place ≡ Some u.m = rw one at u.at in
    let same : u.m ≡ module_value c.module_at.result.now = some_same (sym here ∙ c.module_at.ensures) in
    let used : uses_mode c.args.scan (module_value c.module_at.result.now) ≡ true = subst (λ (m : ModuleValue). uses_mode c.args.scan m ≡ true) same u.used in
    true≢false (sym used ∙ sym c.uses_mode.ensures ∙ no')

pub returns-in-None-clause-other : goal.returns-in-None-clause-other
returns-in-None-clause-other c = λ _ there.
    let u : UsedAt (soc_value c.args.soc.now) c.args.number c.args.scan = used_at (soc_value c.args.soc.now) c.args.number c.args.scan there in
    c.in-None.ensures.none u.p u.m.number (number_at (soc_value c.args.soc.now).modules u.p u.m u.at) u.number_is
