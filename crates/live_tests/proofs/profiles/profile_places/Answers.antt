use Rattle.std.proofs.Common.{◌≡◌, ◌∙◌, ◌-◌, ◌<◌, length, arith, ap, drop}
use Rattle.std.specs.List.{position_from}
use Rattle.std.specs.Map.{lookup}
use Rattle.soc_model.specs.declared.TestId.{TestId}
use Rattle.soc_model.specs.Chips.{same_test}
use Rattle.live_tests.proofs.ProfilePlaces.{names_of, profiles_more, profiles_all}
use Rattle.live_tests.proofs.profiles.profile_places.Goals as goal

pub loop-place-preserved : goal.loop-place-preserved
loop-place-preserved c =
    let within : c.loop-place.place - 1 < length c.args.profiles.now = omega (arith, c.loop-place-test.true, c.loop-place.auto.place) in
    profiles_more c.args.profiles.now (c.loop-place.place - 1) c.loop-place.place c.index-profiles-place.result (λ (id : TestId). lookup (same_test id) c.loop-place.places.entries) (λ (id : TestId). lookup (same_test id) c.insert.new.self.entries) (omega (arith, c.loop-place-test.true)) within c.loop-place.invariant c.in_ok-insert.ensures.updates.0

pub returns : goal.returns
returns c = λ id.
    let zero : c.loop-place.place ≡ 0 = omega (arith, c.loop-place-test.false) in
    c.loop-place.invariant id ∙ ap (λ n. position_from (same_test id) n (drop n (names_of c.args.profiles.now))) zero ∙ profiles_all c.args.profiles.now id
