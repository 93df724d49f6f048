use Rattle.std.proofs.Common.{◌≡◌, ◌∙◌, ℕ, length, arith, refl}
use Rattle.std.proofs.lemmas.List.{length-map}
use Rattle.std.proofs.lemmas.Option.{slice_get-map}
use Rattle.soc_model.specs.declared.Module.{Module}
use Rattle.soc_model.specs.Chips.{module_value, soc_value}
use Rattle.plan_model.specs.Views.{limits_value, profile_value}
use Rattle.plan_model.proofs.SoundChips.{module_size-le}
use Rattle.bound_rules.proofs.SoundWork.{module_work-le}
use Rattle.bound_rules.proofs.Energies.{rest_energy, no_rest, sound_steps}
use Rattle.bound_rules.proofs.energy.total_energy.Goals as goal

pub module_energy-sum-requires-clause-steps : goal.module_energy-sum-requires-clause-steps
module_energy-sum-requires-clause-steps c = λ i p at. sound_steps (soc_value c.args.soc.now) (limits_value c.args.limits.now) c.requires.limits i (profile_value p)
    (slice_get-map profile_value c.args.limits.now.profiles.items i ∙ rw (← c.deref.ensures.value, at) refl)

pub of-requires : goal.of-requires
of-requires c = module_size-le (soc_value c.args.soc.now) c.requires.sound c.loop-place.place (module_value c.module_at-module.result.now) c.module_at-module.ensures

pub module_energy-sum-requires-clause-work : goal.module_energy-sum-requires-clause-work
module_energy-sum-requires-clause-work c =
    rw (c.deref-in-loop-place.ensures.value, c.of.ensures.sizes) (module_work-le (soc_value c.args.soc.now) c.requires.sound c.loop-place.place (module_value c.module_at-module.result.now) c.module_at-module.ensures)

pub module_energy-sum-requires-clause-fits : goal.module_energy-sum-requires-clause-fits
module_energy-sum-requires-clause-fits c =
    let rest = rest_energy (limits_value c.args.limits.now) (soc_value c.args.soc.now).modules c.loop-place.place (module_value c.module_at-module.result.now) c.module_at-module.ensures in
    rw (c.of.ensures.sizes, c.deref-in-loop-place.ensures.value, c.deref.ensures.value) (omega (arith, rest, c.loop-place.invariant, c.requires.fits))

pub overflow_add-sum : goal.overflow_add-sum
overflow_add-sum c =
    let rest = rest_energy (limits_value c.args.limits.now) (soc_value c.args.soc.now).modules c.loop-place.place (module_value c.module_at-module.result.now) c.module_at-module.ensures in
    rw (c.module_energy-sum.ensures, c.of.ensures.sizes, c.deref-in-loop-place.ensures.value, c.deref.ensures.value) (omega (arith, rest, c.loop-place.invariant, c.requires.fits))

pub loop-place-preserved : goal.loop-place-preserved
loop-place-preserved c =
    let rest = rest_energy (limits_value c.args.limits.now) (soc_value c.args.soc.now).modules c.loop-place.place (module_value c.module_at-module.result.now) c.module_at-module.ensures in
    rw (c.module_energy-sum.ensures, c.of.ensures.sizes, c.deref-in-loop-place.ensures.value, c.deref.ensures.value) (omega (arith, rest, c.loop-place.invariant))

pub returns : goal.returns
returns c =
    let long : length (soc_value c.args.soc.now).modules ≡ length c.args.soc.now.modules.entries = length-map c.args.soc.now.modules.entries (λ (e : ℕ × Module). module_value e.1) in
    let none = no_rest (limits_value c.args.limits.now) (soc_value c.args.soc.now).modules c.loop-place.place c.loop-place.place (omega (arith, long, c.len-place-end.ensures.len, c.loop-place-test.false)) in
    omega (arith, none, c.loop-place.invariant)
