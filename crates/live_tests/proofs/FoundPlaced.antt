-- The wrappers of modules are walked one by one, and a placed test is found by the name of its test.
use Rattle.std.proofs.Common.{◌≡◌, ◌⊎◌, inl, inr, true, ℕ, zero, suc, ◌+◌, ◌<◌, None, Some, List, [], ◌∷◌, ◌++◌, length, get_or, map, option_map, sym, ap, ◌∙◌, subst, arith}
use Rattle.std.specs.Prelude.{slice_get, find}
use Rattle.std.proofs.lemmas.Option.{slice_get-get_or, slice_get-map, get_or_from_slice_get}
use Rattle.soc_model.specs.declared.Test.{Test}
use Rattle.soc_model.specs.declared.TestId.{TestId}
use Rattle.soc_model.specs.Chips.{ModuleValue, SocValue, id_of, is_live, live_tests}
use Rattle.soc_model.specs.SoundChips.{IsSoundChip}
use Rattle.plan_model.specs.Plans.{PlanValue, planned_test}
use Rattle.plan_model.specs.Rules.{live_ids}
use Rattle.plan_model.proofs.Lists.{from_append}
use Rattle.live_tests.specs.declared.placed.PlacedTest.{PlacedTest}
use Rattle.live_tests.specs.declared.wrapped.ModeWrappers.{ModeWrappers}
use Rattle.live_tests.specs.declared.placed.Placed.{Placed}
use Rattle.live_tests.specs.PlacedPlans.{IsPlacedPlan, PlacedPlanValue}
use Rattle.live_tests.specs.Placed.{is_called, placed_of, placed_tests}
use Rattle.live_tests.specs.Wrapped.{AreModeWrappers}
use Rattle.live_tests.proofs.LiveIds.{ids_differ}
use Rattle.live_tests.proofs.Placing.{found_at, in_live, names_placed, placed_are, placed_live, the_live}
use Rattle.live_tests.proofs.Precedences.{place_there, test_there}
use Rattle.common_lemmas.proofs.Lists.{in_filter}

-- ---- wrappers

-- what stands for wrappers beyond the end
abbrev pub no_wrappers : ModeWrappers
no_wrappers = record { scan = None; terminals = None }

-- those that are there are the wrappers of their modules
abbrev pub AreWalkedSoFar : SocValue → PlanValue → List ModeWrappers → Type 0
AreWalkedSoFar soc plan ws = (p : ℕ) (m : ModuleValue) (w : ModeWrappers) → slice_get soc.modules p ≡ Some m → slice_get ws p ≡ Some w → AreModeWrappers plan m w

-- one module more
pub walked_more : (soc : SocValue) (plan : PlanValue) (ws : List ModeWrappers) (place : ℕ) (m : ModuleValue) (w : ModeWrappers) → length ws ≡ place → slice_get soc.modules place ≡ Some m → AreModeWrappers plan m w → AreWalkedSoFar soc plan ws → AreWalkedSoFar soc plan (ws ++ w ∷ [])
walked_more soc plan ws place m w long at is are p n v there found = by (from_append ws (w ∷ []) p v found) where
  by : (slice_get ws p ≡ Some v) ⊎ ((j : ℕ) × (p ≡ length ws + j) × (slice_get (w ∷ []) j ≡ Some v)) → AreModeWrappers plan n v
  by (inl old) = are p n v there old
  by (inr (zero, here, last)) =
      let place_is : place ≡ p = omega (arith, here, long) in
      let same : m ≡ n = let a = ap (slice_get soc.modules) place_is in cc in
      let this : w ≡ v = cc in
      subst (λ (x : ModeWrappers). AreModeWrappers plan n x) this (subst (λ (x : ModuleValue). AreModeWrappers plan x w) same is)
  by (inr (suc j, here, last)) = absurd cc

-- ---- a placed test by the name of its test

pub found_placed : (soc : SocValue) (plan : PlanValue) → IsSoundChip soc → (p q : ℕ) (m : ModuleValue) (t : Test) → slice_get soc.modules p ≡ Some m → slice_get m.tests q ≡ Some t → is_live t ≡ true
    → find (is_called (id_of (the_live p m t))) (placed_tests soc plan) ≡ Some (placed_of (planned_test plan p m t))
found_placed soc plan sound p q m t at there live =
    let id : TestId = id_of (the_live p m t) in
    let x : PlacedTest = placed_of (planned_test plan p m t) in
    let n = in_filter is_live m.tests q t there live in
    let i = in_live soc.modules 0 p n.0 p m t (omega arith) at n.1 in
    let placed_there : slice_get (placed_tests soc plan) i.0 ≡ Some x = ap (λ (ts : List PlacedTest). slice_get ts i.0) (placed_are soc plan) ∙ slice_get-map (placed_live plan) (live_tests soc) i.0 ∙ ap (option_map (placed_live plan)) i.1 in
    let named : slice_get (live_ids soc) i.0 ≡ Some id = slice_get-map id_of (live_tests soc) i.0 ∙ ap (option_map id_of) i.1 in
    let k = place_there i.0 (live_ids soc) id named in
    let same : k.0 ≡ i.0 = ids_differ soc sound k.0 i.0 id (test_there k.0 (live_ids soc) id k.1) named in
    let is : get_or (placed_tests soc plan) k.0 x ≡ x = get_or_from_slice_get (placed_tests soc plan) k.0 x x (ap (slice_get (placed_tests soc plan)) same ∙ placed_there) in
    (found_at id (placed_tests soc plan) (live_ids soc) k.0 x x (sym (names_placed soc plan)) k.1 (sym is)).1

-- ---- of a placed plan

-- its chip is sound
pub sound_chip : {soc : SocValue} {plan : PlanValue} {ids : List TestId} {placed : Placed} {value : PlacedPlanValue} → IsPlacedPlan soc plan ids placed → (let v : PlacedPlanValue = record { soc = soc; plan = plan } in v) ≡ value → IsSoundChip value.soc
sound_chip is view = subst (λ (v : PlacedPlanValue). IsSoundChip v.soc) view is.sound

-- the names are those of the placed tests
pub names_of_placed : {soc : SocValue} {plan : PlanValue} {ids : List TestId} {placed : Placed} → IsPlacedPlan soc plan ids placed → ids ≡ map (λ (p : PlacedTest). p.id) placed.tests.items
names_of_placed {soc} {plan} is = is.names ∙ sym (ap (map (λ (p : PlacedTest). p.id)) is.places.tests ∙ names_placed soc plan)

-- a live test of a module is found by its name
pub found_by_name : {soc : SocValue} {plan : PlanValue} {ids : List TestId} {placed : Placed} {value : PlacedPlanValue} → IsPlacedPlan soc plan ids placed → (let v : PlacedPlanValue = record { soc = soc; plan = plan } in v) ≡ value
    → (p q : ℕ) (m : ModuleValue) (t : Test) → slice_get value.soc.modules p ≡ Some m → slice_get m.tests q ≡ Some t → is_live t ≡ true → find (is_called (id_of (the_live p m t))) placed.tests.items ≡ Some (placed_of (planned_test value.plan p m t))
found_by_name {soc} {plan} is view p q m t at there live =
    ap (find (is_called (id_of (the_live p m t)))) is.places.tests
    ∙ found_placed soc plan is.sound p q m t (ap (λ (v : PlacedPlanValue). slice_get v.soc.modules p) view ∙ at) there live
    ∙ ap (λ (v : PlacedPlanValue). Some (placed_of (planned_test v.plan p m t))) view

-- a module's place is one of its wrappers
pub walked_within : {soc : SocValue} {plan : PlanValue} {ids : List TestId} {placed : Placed} {value : PlacedPlanValue} → IsPlacedPlan soc plan ids placed → (let v : PlacedPlanValue = record { soc = soc; plan = plan } in v) ≡ value
    → (p : ℕ) → p < length value.soc.modules → p < length placed.wrappers.items
walked_within is view p within = let same = ap (λ (v : PlacedPlanValue). length v.soc.modules) view in omega (arith, is.places.wrappers.long, same, within)

-- and there they stand
pub walked_at : {soc : SocValue} {plan : PlanValue} {ids : List TestId} {placed : Placed} {value : PlacedPlanValue} → IsPlacedPlan soc plan ids placed → (let v : PlacedPlanValue = record { soc = soc; plan = plan } in v) ≡ value
    → (p : ℕ) → p < length value.soc.modules → (w : ModeWrappers) → w ≡ get_or placed.wrappers.items p w → (m : ModuleValue) → slice_get value.soc.modules p ≡ Some m → AreModeWrappers value.plan m w
walked_at {placed = placed} is view p within w here m at =
    subst (λ (v : PlacedPlanValue). AreModeWrappers v.plan m w) view
    (is.places.wrappers.are p m w (ap (λ (v : PlacedPlanValue). slice_get v.soc.modules p) view ∙ at)
    (slice_get-get_or placed.wrappers.items p w (walked_within is view p within) ∙ ap Some (sym here)))
