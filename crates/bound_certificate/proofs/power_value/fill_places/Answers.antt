use Rattle.std.proofs.Common.{◌≡◌, ◌∙◌, ◌-◌, ◌<◌, length, get_or, arith, ap, drop}
use Rattle.std.specs.List.{position_from}
use Rattle.std.specs.Map.{lookup}
use Rattle.soc_model.specs.declared.TestId.{TestId}
use Rattle.soc_model.specs.Chips.{same_test}
use Rattle.live_tests.proofs.ProfilePlaces.{profiles_more, profiles_all}
use Rattle.bound_certificate.specs.ProfileNames.{names_of}
use Rattle.bound_certificate.proofs.NamedProfiles.{name_new}
use Rattle.bound_certificate.proofs.power_value.fill_places.Goals as goal

pub put_place-requires-clause-room : goal.put_place-requires-clause-room
put_place-requires-clause-room c = omega (arith, c.loop-place.invariant.room, c.loop-place.invariant.count, c.requires.few, c.loop-place-test.true)

pub put_place-requires-clause-new : goal.put_place-requires-clause-new
put_place-requires-clause-new c =
    let within : c.loop-place.place - 1 < length c.args.profiles.now = omega (arith, c.loop-place-test.true, c.loop-place.auto.place) in
    c.loop-place.invariant.filled (get_or c.args.profiles.now (c.loop-place.place - 1) c.index-profiles-place.result).test ∙ name_new c.args.profiles.now (c.loop-place.place - 1) c.loop-place.place c.index-profiles-place.result (omega (arith, c.loop-place-test.true)) within c.requires.differ

pub loop-place-preserved : goal.loop-place-preserved
loop-place-preserved c =
    let within : c.loop-place.place - 1 < length c.args.profiles.now = omega (arith, c.loop-place-test.true, c.loop-place.auto.place) in
    record {
      filled = profiles_more c.args.profiles.now (c.loop-place.place - 1) c.loop-place.place c.index-profiles-place.result (λ (id : TestId). lookup (same_test id) c.loop-place.places.entries) (λ (id : TestId). lookup (same_test id) c.put_place.new.places.entries) (omega (arith, c.loop-place-test.true)) within c.loop-place.invariant.filled c.put_place.ensures.put;
      count = omega (arith, c.put_place.ensures.count, c.loop-place.invariant.count, c.loop-place-test.true);
      room = omega (arith, c.put_place.ensures.count, c.put_place.ensures.room, c.loop-place.invariant.room);
    }

pub returns-clause-filled : goal.returns-clause-filled
returns-clause-filled c = λ id.
    let zero : c.loop-place.place ≡ 0 = omega (arith, c.loop-place-test.false) in
    c.loop-place.invariant.filled id ∙ ap (λ n. position_from (same_test id) n (drop n (names_of c.args.profiles.now))) zero ∙ profiles_all c.args.profiles.now id
