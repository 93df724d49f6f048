use Rattle.std.proofs.Common.{◌<◌, ℕ, List, Some, get_or, map, ◌≡◌, ◌≤◌, ◌-◌, length, ap, sym, ◌∙◌, arith, slice_get}
use Rattle.plan_model.specs.declared.Profile.{Profile}
use Rattle.std.proofs.lemmas.Option.{slice_get_within}
use Rattle.plan_model.specs.Views.{limits_value, profile_value}
use Rattle.plan_checker.specs.Named.{names_of}
use Rattle.live_tests.specs.declared.placed.PlacedTest.{PlacedTest}
use Rattle.plan_checker.proofs.Profiles.{no_profile_yet, all_profiles, profile_of_test, profile_of_none, profile_read}
use Rattle.plan_checker.proofs.Rooms.{length_values}
use Rattle.plan_checker.proofs.power.fill_profiles.Goals as goal

pub loop-at-init : goal.loop-at-init
loop-at-init c =
    let count = c.profile_count-count.ensures ∙ ap length c.deref.ensures.value ∙ sym (length_values profile_value c.args.limits.now.profiles.items) in
    no_profile_yet (limits_value c.args.limits.now) c.args.placed.now c.clear_marks.new.marks c.profile_count-count.result (length c.args.profiles.now) count c.requires.room c.clear_marks.ensures

pub write_place-requires : goal.write_place-requires
write_place-requires c =
    let named = rw c.requires.named at c.in-Some.ensures.found in
    omega (arith, slice_get_within (names_of c.args.placed.now) c.in-Some.place _ named, length_values (λ (j : PlacedTest). j.id) c.args.placed.now, c.requires.room, c.loop-at.auto.profiles)

profile_at : (ps : List Profile) (x : Profile) (count at : ℕ) → 0 < at → at ≤ count → count ≡ length ps → x ≡ get_or ps (at - 1) x → slice_get (map profile_value ps) (at - 1) ≡ Some (profile_value x)
profile_at ps x count at some within long is = profile_read ps (at - 1) x (omega arith) is

pub loop-at-preserved-in-Some : goal.loop-at-preserved-in-Some
loop-at-preserved-in-Some c =
    let read = profile_at c.args.limits.now.profiles.items c.index.result.now c.profile_count-count.result c.loop-at.at c.loop-at-test.true c.loop-at.auto.at (c.profile_count-count.ensures ∙ ap length c.deref.ensures.value) c.index.ensures in
    rw c.write_place.ensures (profile_of_test (limits_value c.args.limits.now) c.args.placed.now c.loop-at.at (c.loop-at.at - 1) (profile_value c.index.result.now) c.loop-at.profiles c.in-Some.place (omega (arith, c.loop-at-test.true)) c.requires.apart (omega (arith, c.loop-at.auto.profiles, c.clear_marks.auto.marks, c.requires.room)) read (rw c.requires.named at c.in-Some.ensures.found) c.loop-at.invariant)

pub loop-at-preserved : goal.loop-at-preserved
loop-at-preserved c =
    let read = profile_at c.args.limits.now.profiles.items c.index.result.now c.profile_count-count.result c.loop-at.at c.loop-at-test.true c.loop-at.auto.at (c.profile_count-count.ensures ∙ ap length c.deref.ensures.value) c.index.ensures in
    profile_of_none (limits_value c.args.limits.now) c.args.placed.now c.loop-at.at (c.loop-at.at - 1) (profile_value c.index.result.now) c.loop-at.profiles (omega (arith, c.loop-at-test.true)) read (rw c.requires.named at c.in-None.ensures.none) c.loop-at.invariant

pub returns : goal.returns
returns c = all_profiles (limits_value c.args.limits.now) c.args.placed.now c.loop-at.profiles c.loop-at.at (omega (arith, c.loop-at-test.false)) c.loop-at.invariant
