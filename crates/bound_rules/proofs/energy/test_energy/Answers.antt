use Rattle.std.proofs.Common.{get_or, map, ◌∙◌, sym, refl}
use Rattle.std.proofs.lemmas.Option.{slice_get-get_or}
use Rattle.plan_model.specs.Views.{profile_value}
use Rattle.plan_model.specs.Plans.{step_power}
use Rattle.plan_model.proofs.SumsOverCycles.{sum_below-same}
use Rattle.bound_rules.specs.Energy.{powers_of}
use Rattle.bound_rules.proofs.Energies.{own_energy}
use Rattle.bound_rules.proofs.ProfilePlaces.{place_within, said_at, said_by_none}
use Rattle.bound_rules.proofs.energy.test_energy.Goals as goal

pub bounds-profiles-place : goal.bounds-profiles-place
bounds-profiles-place c = (place_within c.args.id c.args.profiles.now.list.now c.in-Some.place c.in-Some.ensures).0

pub returns-in-Some : goal.returns-in-Some
returns-in-Some c =
    let within = (place_within c.args.id c.args.profiles.now.list.now c.in-Some.place c.in-Some.ensures).0 in
    let at = slice_get-get_or c.args.profiles.now.list.now c.in-Some.place c.index-profiles-place.result within in
    c.steps_energy.ensures ∙ sym (sum_below-same (powers_of c.args.id c.args.own (map profile_value c.args.profiles.now.list.now)) (λ r. step_power r 0 c.deref.result.now) c.args.length
    (λ r h. said_at c.args.id (λ p. step_power r 0 p.steps) c.args.own c.args.profiles.now.list.now c.in-Some.place (get_or c.args.profiles.now.list.now c.in-Some.place c.index-profiles-place.result) c.in-Some.ensures at ∙ rw c.deref.ensures.value refl))

pub returns-in-None : goal.returns-in-None
returns-in-None c =
    c.drawn.ensures.drawn ∙ sym (sum_below-same (powers_of c.args.id c.args.own (map profile_value c.args.profiles.now.list.now)) (λ r. c.args.own) c.args.length
    (λ r h. said_by_none c.args.id (λ p. step_power r 0 p.steps) c.args.own c.args.profiles.now.list.now c.in-None.ensures) ∙ own_energy c.args.own c.args.length)
