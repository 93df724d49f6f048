-- The profiles of tests by their places, and what the tests draw with them.
use Rattle.std.proofs.Common.{◌≡◌, ℕ, zero, suc, ◌+◌, ◌-◌, ◌≤◌, ◌<◌, true, false, Some, None, List, [], ◌∷◌, length, get_or, map, drop, set, refl, ap, ◌∙◌, sym, subst, arith, inl, inr, ◌⊎◌, true≢false, slice_get}
use Rattle.std.specs.List.{position_or_len}
use Rattle.std.proofs.lemmas.Bool.{cases_Bool}
use Rattle.std.proofs.lemmas.Option.{slice_get_within, slice_get-get_or, slice_get_past}
use Rattle.soc_model.specs.declared.TestId.{TestId}
use Rattle.soc_model.specs.Chips.{same_test}
use Rattle.plan_model.specs.declared.Profile.{Profile}
use Rattle.plan_model.specs.Views.{profile_value}
use Rattle.plan_model.specs.Plans.{ProfileValue, LimitsValue, PlannedTest, power_of, power_at, is_active}
use Rattle.plan_model.specs.Faults.{IsFirstExcess}
use Rattle.plan_model.proofs.Sums.{sum_by-filter}
use Rattle.live_tests.specs.declared.placed.PlacedTest.{PlacedTest}
use Rattle.live_tests.specs.Placed.{placed_of}
use Rattle.live_tests.specs.Names.{AllDiffer}
use Rattle.plan_checker.specs.Named.{names_of}
use Rattle.plan_checker.specs.declared.events.Excess.{Excess}
use Rattle.plan_checker.specs.Events.{IsFirstOver}
use Rattle.plan_checker.specs.Power.{AreProfiles}
use Rattle.live_tests.specs.Loads.{drawn, drawn_by}
use Rattle.live_tests.specs.Events.{profile_place, steps_from, steps_of}
use Rattle.live_tests.proofs.WrittenParents.{set_else}
use Rattle.plan_checker.proofs.Rooms.{same_test_is, same_test_itself}
use Rattle.common_lemmas.proofs.Lists.{drop_at, map_at, set_here, sum_map}

-- ---- the places of profiles, written from the last profile to the first

-- the profiles from `at` on are written
abbrev pub AreProfilesFrom : LimitsValue → List PlacedTest → ℕ → List ℕ → Type 0
AreProfilesFrom limits placed at places = (i : ℕ) (j : PlacedTest) → slice_get placed i ≡ Some j → slice_get places i ≡ Some (at + position_or_len (λ (p : ProfileValue). same_test p.test j.id) (drop at limits.profiles))

-- one more profile, of a test that is not placed
pub profile_of_none : (limits : LimitsValue) (placed : List PlacedTest) (n at : ℕ) (p : ProfileValue) (places : List ℕ) → n ≡ suc at → slice_get limits.profiles at ≡ Some p → ((i : ℕ) → slice_get (names_of placed) i ≡ Some p.test → ⊥) → AreProfilesFrom limits placed n places → AreProfilesFrom limits placed at places
profile_of_none limits placed n at p places next there none are i j test_at =
    other (drop_at limits.profiles at p there) (cases_Bool (same_test p.test j.id))
  where
    other : drop at limits.profiles ≡ p ∷ drop (suc at) limits.profiles → (same_test p.test j.id ≡ true) ⊎ (same_test p.test j.id ≡ false) → slice_get places i ≡ Some (at + position_or_len (λ (p : ProfileValue). same_test p.test j.id) (drop at limits.profiles))
    other items (inl yes') = absurd (none i (map_at (λ (j : PlacedTest). j.id) placed i j test_at ∙ ap Some (sym (same_test_is p.test j.id yes'))))
    other items (inr no') =
        let here = rw next at (are i j test_at) in
        let rest = position_or_len (λ (p : ProfileValue). same_test p.test j.id) (drop (suc at) limits.profiles) in
        let n : at + (1 + rest) ≡ suc at + rest = omega arith in
        rw (items, no') (here ∙ ap Some (sym n))

-- one more profile, of the test at a place
pub profile_of_test : (limits : LimitsValue) (placed : List PlacedTest) (n at : ℕ) (p : ProfileValue) (places : List ℕ) (q : ℕ) → n ≡ suc at → AllDiffer (names_of placed) → length places ≡ length placed → slice_get limits.profiles at ≡ Some p → slice_get (names_of placed) q ≡ Some p.test → AreProfilesFrom limits placed n places → AreProfilesFrom limits placed at (set places q at)
profile_of_test limits placed n at p places q next apart long there named are i j test_at =
    go (drop_at limits.profiles at p there) (cases_Bool (same_test p.test j.id))
  where
    go : drop at limits.profiles ≡ p ∷ drop (suc at) limits.profiles → (same_test p.test j.id ≡ true) ⊎ (same_test p.test j.id ≡ false) → slice_get (set places q at) i ≡ Some (at + position_or_len (λ (p : ProfileValue). same_test p.test j.id) (drop at limits.profiles))
    go items (inl yes') =
        let same : i ≡ q = apart i q p.test (map_at (λ (j : PlacedTest). j.id) placed i j test_at ∙ ap Some (sym (same_test_is p.test j.id yes'))) named in
        let n : at + 0 ≡ at = omega arith in
        rw (items, yes', n, same) (set_here places q at (omega (arith, long, slice_get_within placed i j test_at)))
    go items (inr no') =
        let here = rw next at (are i j test_at) in
        let rest = position_or_len (λ (p : ProfileValue). same_test p.test j.id) (drop (suc at) limits.profiles) in
        let n : at + (1 + rest) ≡ suc at + rest = omega arith in
        let else' : i ≡ q → ⊥ = λ same. apart_name same no' in
        rw (items, no') (set_else places q i at else' ∙ here ∙ ap Some (sym n))
      where
        some_is : {x y : TestId} → Some x ≡ Some y → x ≡ y
        some_is e = cc

        apart_name : i ≡ q → same_test p.test j.id ≡ false → ⊥
        apart_name same no' =
            let name : slice_get (names_of placed) i ≡ Some j.id = map_at (λ (j : PlacedTest). j.id) placed i j test_at in
            let one : p.test ≡ j.id = some_is (sym named ∙ sym (ap (slice_get (names_of placed)) same) ∙ name) in
            true≢false (sym (same_test_itself j.id) ∙ subst (λ v. same_test v j.id ≡ false) one no')

drop_all : {X : Type 0} (xs : List X) (n : ℕ) → n ≡ length xs → drop n xs ≡ []
drop_all [] zero e = refl
drop_all [] (suc n) e = refl
drop_all (x ∷ xs) zero e = absurd (omega arith)
drop_all (x ∷ xs) (suc n) e = drop_all xs n (omega arith)

-- none is written yet
pub no_profile_yet : (limits : LimitsValue) (placed : List PlacedTest) (places : List ℕ) (n m : ℕ) → n ≡ length limits.profiles → m ≡ length placed → ((i : ℕ) → i < m → slice_get places i ≡ Some n) → AreProfilesFrom limits placed n places
no_profile_yet limits placed places n m all long are i j test_at =
    let e : n + 0 ≡ n = omega arith in
    rw (drop_all limits.profiles n all, e) (are i (omega (arith, long, slice_get_within placed i j test_at)))

pub all_profiles : (limits : LimitsValue) (placed : List PlacedTest) (places : List ℕ) (n : ℕ) → n ≡ 0 → AreProfilesFrom limits placed n places → AreProfiles limits placed places
all_profiles limits placed places n none are i j at =
    let e : 0 + profile_place limits j.id ≡ profile_place limits j.id = omega arith in
    rw none at (are i j at) ∙ ap Some e

-- ---- what the tests draw is what the planned tests draw

pub power_is : (limits : LimitsValue) (tests : List PlannedTest) (c : ℕ) → drawn_by limits (map placed_of tests) c ≡ power_at limits tests c
power_is limits tests c = sum_map (drawn limits c) placed_of tests ∙ sym (sum_by-filter (is_active c) (λ t. power_of limits t (c - t.start)) tests)

-- ---- what the code reads

-- the profile that is read at a place
pub profile_read : (ps : List Profile) (k : ℕ) (x : Profile) → k < length ps → x ≡ get_or ps k x → slice_get (map profile_value ps) k ≡ Some (profile_value x)
profile_read ps k x within is = map_at profile_value ps k x (slice_get-get_or ps k x within ∙ ap Some (sym is))

-- the steps of a test whose profile stands at a place, and of one without a profile
pub steps_read : (limits : LimitsValue) (j : PlacedTest) (k : ℕ) (p : ProfileValue) → k ≡ profile_place limits j.id → slice_get limits.profiles k ≡ Some p → steps_of limits j ≡ p.steps
steps_read limits j k p place at = let at' = rw place at at in ap (λ o. steps_from o j.power) at'

pub steps_own : (limits : LimitsValue) (j : PlacedTest) (k : ℕ) → k ≡ profile_place limits j.id → length limits.profiles ≤ k → steps_of limits j ≡ (0, j.power) ∷ []
steps_own limits j k place past = ap (λ o. steps_from o j.power) (slice_get_past limits.profiles (profile_place limits j.id) (omega (arith, place)))

-- ---- the first cycle of too much power

pub none_over : (limits : LimitsValue) (tests : List PlannedTest) (most : ℕ) → IsFirstOver (drawn_by limits (map placed_of tests)) most None → (c : ℕ) → power_at limits tests c ≤ most
none_over limits tests most low c = omega (arith, low c, power_is limits tests c)

pub excess_first : (limits : LimitsValue) (tests : List PlannedTest) (most : ℕ) (e : Excess) → limits.power ≡ Some most → IsFirstOver (drawn_by limits (map placed_of tests)) most (Some e) → IsFirstExcess limits tests e.cycle e.sum
excess_first limits tests most e limit over = record {
  passes = λ within.
      let within' = rw limit at within in
      omega (arith, within', over.more, power_is limits tests e.cycle);
  earlier = λ c before. rw limit (omega (arith, over.earlier c before, power_is limits tests c));
  sum_is = over.sum_is ∙ power_is limits tests e.cycle;
}
