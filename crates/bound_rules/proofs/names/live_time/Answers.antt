use Rattle.std.proofs.Common.{◌≡◌, None, Some, ◌∙◌, sym, ap, arith, refl}
use Rattle.std.specs.List.{find}
use Rattle.soc_model.specs.Chips.{soc_value, module_value}
use Rattle.plan_model.proofs.SoundChips.{module_size-le}
use Rattle.bound_rules.specs.Named.{is_named}
use Rattle.bound_rules.proofs.SoundWork.{module_work-le}
use Rattle.bound_rules.proofs.Modules.{time_by_sizes}
use Rattle.bound_rules.proofs.Naming.{named_at, named_nowhere, found_work}
use Rattle.bound_rules.proofs.names.live_time.Goals as goal

pub returns-in_err-place-clause-time : goal.returns-in_err-place-clause-time
returns-in_err-place-clause-time c = c.from_residual.ensures ∙ rw (named_nowhere (soc_value c.args.soc.now) c.args.id c.requires.sound (sym c.place_of.ensures ∙ c.in_err-place.was)) refl

pub returns-in_err-test-clause-time : goal.returns-in_err-test-clause-time
returns-in_err-test-clause-time c =
    let found : find (is_named c.args.id.test) (module_value c.module_at-module.result.now).tests ≡ None = ap (find (is_named c.args.id.test)) (sym c.deref.ensures.value) ∙ sym c.live_test.ensures ∙ c.in_err-test.was in
    c.from_residual-in_err-test.ensures ∙ rw (named_at (soc_value c.args.soc.now) c.args.id c.in_ok-place.place (module_value c.module_at-module.result.now) c.requires.sound (sym c.place_of.ensures ∙ c.in_ok-place.was) c.module_at-module.ensures, found) refl

pub of-requires : goal.of-requires
of-requires c = module_size-le (soc_value c.args.soc.now) c.requires.sound c.in_ok-place.place (module_value c.module_at-module.result.now) c.module_at-module.ensures

pub time-requires-clause-live : goal.time-requires-clause-live
time-requires-clause-live c = (found_work c.of.result c.args.id.test c.deref.result.now c.in_ok-test.test (sym c.in_ok-test.was ∙ c.live_test.ensures)).0

pub time-requires-clause-work : goal.time-requires-clause-work
time-requires-clause-work c =
    let few = (found_work c.of.result c.args.id.test c.deref.result.now c.in_ok-test.test (sym c.in_ok-test.was ∙ c.live_test.ensures)).1 in
    let whole = rw (← c.of.ensures.sizes, ← c.deref.ensures.value) at (module_work-le (soc_value c.args.soc.now) c.requires.sound c.in_ok-place.place (module_value c.module_at-module.result.now) c.module_at-module.ensures) in
    omega (arith, few, whole)

pub returns-clause-time : goal.returns-clause-time
returns-clause-time c =
    let found : find (is_named c.args.id.test) (module_value c.module_at-module.result.now).tests ≡ Some c.in_ok-test.test = ap (find (is_named c.args.id.test)) (sym c.deref.ensures.value) ∙ sym c.live_test.ensures ∙ c.in_ok-test.was in
    rw (named_at (soc_value c.args.soc.now) c.args.id c.in_ok-place.place (module_value c.module_at-module.result.now) c.requires.sound (sym c.place_of.ensures ∙ c.in_ok-place.was) c.module_at-module.ensures, found)
    (ap Some (c.time.ensures.time ∙ rw c.of.ensures.sizes (time_by_sizes (module_value c.module_at-module.result.now) c.in_ok-test.test c.args.wires)))

pub returns-clause-small : goal.returns-clause-small
returns-clause-small c =
    let few = (found_work c.of.result c.args.id.test c.deref.result.now c.in_ok-test.test (sym c.in_ok-test.was ∙ c.live_test.ensures)).1 in
    let whole = rw (← c.of.ensures.sizes, ← c.deref.ensures.value) at (module_work-le (soc_value c.args.soc.now) c.requires.sound c.in_ok-place.place (module_value c.module_at-module.result.now) c.module_at-module.ensures) in
    omega (arith, c.time.ensures.small, few, whole)
