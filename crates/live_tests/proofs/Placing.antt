-- The live tests of a plan are placed module by module, and found by name.
use Rattle.std.proofs.Common.{◌≡◌, inl, inr, ℕ, zero, suc, ◌+◌, ◌^◌, ◌≤◌, ◌<◌, true, false, Option, None, Some, List, [], ◌∷◌, ◌++◌, length, get_or, map, drop, position, option_map, refl, sym, ap, subst, ◌∙◌, append_assoc, append-nil, true≢false, arith}
use Rattle.std.specs.Prelude.{slice_get, find, nat_eq, nat_lt}
use Rattle.std.specs.List.{filter, position_or_len}
use Rattle.std.proofs.lemmas.Bool.{cases_Bool, leb-true}
use Rattle.std.proofs.lemmas.Bool.Decides.{nat_tests}
use Rattle.std.proofs.lemmas.List.{length-map, map-append}
use Rattle.std.proofs.lemmas.List.Folds.{find_at}
use Rattle.std.proofs.lemmas.Option.{slice_get-map, slice_get-get_or, slice_get_within, get_or_from_slice_get, slice_get_past, cond_some}
use Rattle.soc_model.specs.declared.Test.{Test}
use Rattle.soc_model.specs.declared.TestId.{TestId}
use Rattle.soc_model.specs.Chips.{ModuleValue, SocValue, LiveTest, is_live, live_of, live_from, live_tests, id_of, same_test}
use Rattle.plan_model.specs.Plans.{PlanValue, LimitsValue, planned, planned_test, chains_of, operations_of, end_of, greatest, bus_place, of_first, wraps}
use Rattle.plan_model.specs.Rules.{Each, IsGood, HasWrapper, Cycles, live_ids, used_pairs}
use Rattle.plan_model.specs.Operations.{ops_of}
use Rattle.plan_model.proofs.Finding.{none_passes}
use Rattle.plan_model.proofs.Greatest.{le-greatest_at}
use Rattle.plan_model.proofs.Lists.{in_append_right}
use Rattle.plan_model.proofs.SoundChips.{tam_work-le}
use Rattle.plan_model.proofs.PlannedTests.{Wrapped, wrapped_by, wraps_from}
use Rattle.soc_model.specs.SoundChips.{IsSoundChip, IsSoundModule}
use Rattle.soc_model.proofs.Limits.{modules-small}
use Rattle.soc_model.proofs.Sums.{IsSmall}
use Rattle.live_tests.specs.declared.placed.PlacedTest.{PlacedTest}
use Rattle.live_tests.specs.Placed.{bus_over, is_called, placed_in, placed_of, placed_tests}
use Rattle.live_tests.specs.declared.wrapped.ModeWrapper.{ModeWrapper}
use Rattle.live_tests.specs.declared.wrapped.ModeWrappers.{ModeWrappers}
use Rattle.live_tests.specs.Wrapped.{AreModeWrappers, IsModeWrapper, IsWrappedTest}
use Rattle.common_lemmas.proofs.Options.{cond_none}
use Rattle.common_lemmas.proofs.Lists.{drop_at, map_twice, at_left, in_filter}

-- ---- live tests of a chip

abbrev pub the_live : ℕ → ModuleValue → Test → LiveTest
the_live place m t = record { place = place; core = m; test = t }

-- a live test of a module is one of the chip
pub in_live : (ms : List ModuleValue) (base up n place : ℕ) (m : ModuleValue) (t : Test) → base + up ≡ place → slice_get ms up ≡ Some m → slice_get (filter is_live m.tests) n ≡ Some t → (i : ℕ) × (slice_get (live_from base ms) i ≡ Some (the_live place m t))
unfolding live_from
in_live [] base up n place m t e at there = absurd cc
in_live (k ∷ ms) base zero n place m t e at there =
    let same : k ≡ m = cc in
    let number : base ≡ place = omega (arith, e) in
    (n, at_left (live_of base k) (live_from (base + 1) ms) n (the_live place m t) (rw (same, number) (slice_get-map (the_live place m) (filter is_live m.tests) n ∙ rw there refl)))
in_live (k ∷ ms) base (suc up) n place m t e at there =
    let r = in_live ms (base + 1) up n place m t (omega (arith, e)) at there in
    in_append_right (live_of base k) (live_from (base + 1) ms) r.0 (the_live place m t) r.1

sound_module : (soc : SocValue) → IsSoundChip soc → (p : ℕ) (m : ModuleValue) → slice_get soc.modules p ≡ Some m → IsSoundModule m
sound_module soc sound p m at = subst IsSoundModule (get_or_from_slice_get soc.modules p m m at) (sound.modules p m (slice_get_within soc.modules p m at))

position-numbers : (n : ℕ) (ts : List Test) → position (λ (t : Test). nat_eq n t.number) ts ≡ position (nat_eq n) (map (λ (t : Test). t.number) ts)
position-numbers n ts = rw (first_of ts, length-map ts (λ (t : Test). t.number)) refl where
  first_of : (ts : List Test) → position_or_len (nat_eq n) (map (λ (t : Test). t.number) ts) ≡ position_or_len (λ (t : Test). nat_eq n t.number) ts
  first_of [] = refl
  first_of (t ∷ ts) = elim (cases_Bool (nat_eq n t.number)) [ inl yes' ↦ rw yes' refl | inr no' ↦ rw no' (ap (λ v. 1 + v) (first_of ts)) ]

-- ---- what is placed of a test

start_of_planned : (plan : PlanValue) (place : ℕ) (m : ModuleValue) (t : Test) → (planned_test plan place m t).start ≡ of_first (λ (s : TestId × ℕ). same_test s.0 (id_of (the_live place m t))) (λ s. s.1) 0 plan.starts
unfolding planned_test
start_of_planned plan place m t = refl

end_of_planned : (plan : PlanValue) (place : ℕ) (m : ModuleValue) (t : Test) → end_of (planned_test plan place m t) ≡ (planned_test plan place m t).start + length (operations_of m t (chains_of plan m t))
unfolding planned_test
end_of_planned plan place m t = refl

-- the start that is found
pub start_is : (plan : PlanValue) (place : ℕ) (m : ModuleValue) (t : Test) (start : ℕ) → start ≡ of_first (λ (s : TestId × ℕ). same_test s.0 (id_of (the_live place m t))) (λ s. s.1) 0 plan.starts → start ≡ (planned_test plan place m t).start
start_is plan place m t start is = is ∙ sym (start_of_planned plan place m t)

-- the end
pub end_is : (plan : PlanValue) (place : ℕ) (m : ModuleValue) (t : Test) (start n : ℕ) → start ≡ (planned_test plan place m t).start → n ≡ length (operations_of m t (chains_of plan m t)) → start + n ≡ end_of (planned_test plan place m t)
end_is plan place m t start n is long = omega (arith, is, long, end_of_planned plan place m t)

-- no test of a good plan ends after the plan
pub ends_within : (soc : SocValue) (limits : LimitsValue) (plan : PlanValue) → IsGood soc limits plan → (p q : ℕ) (m : ModuleValue) (t : Test) → slice_get soc.modules p ≡ Some m → slice_get m.tests q ≡ Some t → is_live t ≡ true → end_of (planned_test plan p m t) ≤ plan.cycles
unfolding planned
ends_within soc limits plan good p q m t at there live =
    let n = in_filter is_live m.tests q t there live in
    let i = in_live soc.modules 0 p n.0 p m t (omega arith) at n.1 in
    let planned_there : slice_get (planned soc plan) i.0 ≡ Some (planned_test plan p m t) = slice_get-map (λ (l : LiveTest). planned_test plan l.place l.core l.test) (live_tests soc) i.0 ∙ ap (option_map (λ (l : LiveTest). planned_test plan l.place l.core l.test)) i.1 in
    let cycles : plan.cycles ≡ greatest (map end_of (planned soc plan)) = good Cycles in
    subst (λ n. end_of (planned_test plan p m t) ≤ n) (sym cycles) (le-greatest_at end_of (planned soc plan) i.0 (planned_test plan p m t) planned_there)

-- a live test over the wires has a wrapper
pub always_wrapped : (soc : SocValue) (plan : PlanValue) → Each (HasWrapper plan) (used_pairs soc) → (p q : ℕ) (m : ModuleValue) (t : Test) → slice_get soc.modules p ≡ Some m → slice_get m.tests q ≡ Some t → is_live t ≡ true → t.tam ≡ true → position (wraps m.number t.scan) plan.wrappers ≡ None → ⊥
always_wrapped soc plan have p q m t at there live tam none =
    let n = in_filter is_live m.tests q t there live in
    let w : Wrapped plan m t = wrapped_by soc plan have p n.0 m t at n.1 tam in
    let fails : wraps m.number t.scan w.w ≡ false = none_passes (wraps m.number t.scan) plan.wrappers none w.n w.w w.at in
    true≢false (sym (wraps_from w.w m.number t.scan w.module_is w.scan_is) ∙ fails)

-- the patterns of a test of a sound chip
pub patterns-le : (soc : SocValue) → IsSoundChip soc → (p q : ℕ) (m : ModuleValue) (t : Test) → slice_get soc.modules p ≡ Some m → slice_get m.tests q ≡ Some t → t.patterns ≤ 10 ^ 18
patterns-le soc sound p q m t at there =
    let within : p < length soc.modules = slice_get_within soc.modules p m at in
    let here : get_or soc.modules p m ≡ m = get_or_from_slice_get soc.modules p m m at in
    let small : IsSmall m = rw here at (modules-small soc sound.small p m within) in
    let is : get_or m.tests q t ≡ t = get_or_from_slice_get m.tests q t t there in
    let few : t.patterns < 10 ^ 12 = rw is at (small.tests q t (slice_get_within m.tests q t there)) in
    omega arith

-- a live test of a sound chip, where every wrapper that is used is there
pub wrapped_test : (soc : SocValue) (plan : PlanValue) → IsSoundChip soc → Each (HasWrapper plan) (used_pairs soc) → (p q : ℕ) (m : ModuleValue) (t : Test) (w : ModeWrappers) → slice_get soc.modules p ≡ Some m → slice_get m.tests q ≡ Some t → is_live t ≡ true → AreModeWrappers plan m w → IsWrappedTest plan m t w
wrapped_test soc plan sound have p q m t w at there live wrappers = record {
  live = leb-true 1 t.patterns live;
  few = patterns-le soc sound p q m t at there;
  work = λ tam. tam_work-le soc sound p q m t at there live tam;
  wrappers = wrappers;
  wrapped = λ tam. always_wrapped soc plan have p q m t at there live tam;
}

-- the time of a test over the wires, by its wrapper
pub time_is : (plan : PlanValue) (m : ModuleValue) (t : Test) (w : ModeWrapper) → t.tam ≡ true → IsModeWrapper plan m t.scan w → length (ops_of m.setup w.si w.so t.patterns) ≡ length (operations_of m t (chains_of plan m t))
time_is plan m t w tam is = rw (tam, is.si, is.so, is.first) refl

-- the placed test of these parts
pub test_is : (plan : PlanValue) (place : ℕ) (m : ModuleValue) (t : Test) (bus start n : ℕ) (over : Option ℕ) → bus ≡ bus_place m.number 0 plan.buses → over ≡ bus_over t.tam bus → start ≡ (planned_test plan place m t).start → n ≡ length (operations_of m t (chains_of plan m t))
    → (let p : PlacedTest = record { id = id_of (the_live place m t); place = place; bus = over; start = start; end = start + n; power = t.power } in p) ≡ placed_of (planned_test plan place m t)
unfolding planned_test
test_is plan place m t bus start n over bus_is over_is is long =
    ap (λ (b : Option ℕ). the_placed b start (start + n)) (over_is ∙ ap (bus_over t.tam) bus_is)
    ∙ ap (λ (s : ℕ). the_placed (bus_over t.tam (bus_place m.number 0 plan.buses)) s (s + n)) is
    ∙ ap (λ (k : ℕ). the_placed (bus_over t.tam (bus_place m.number 0 plan.buses)) (planned_test plan place m t).start ((planned_test plan place m t).start + k)) long
  where
    the_placed : Option ℕ → ℕ → ℕ → PlacedTest
    the_placed b s e = record { id = id_of (the_live place m t); place = place; bus = b; start = s; end = e; power = t.power }

-- ---- module by module

drop_past : {X : Type 0} (xs : List X) (k : ℕ) → length xs ≤ k → drop k xs ≡ []
drop_past [] zero past = refl
drop_past [] (suc k) past = refl
drop_past (x ∷ xs) zero past = absurd (omega (arith, past))
drop_past (x ∷ xs) (suc k) past = drop_past xs k (omega (arith, past))

-- a live test as the plan places it
abbrev pub placed_live : PlanValue → LiveTest → PlacedTest
placed_live plan l = placed_of (planned_test plan l.place l.core l.test)

-- all of them
pub placed_are : (soc : SocValue) (plan : PlanValue) → placed_tests soc plan ≡ map (placed_live plan) (live_tests soc)
unfolding planned
placed_are soc plan = map_twice placed_of (λ (l : LiveTest). planned_test plan l.place l.core l.test) (live_tests soc)

-- one module more
pub module_more : (plan : PlanValue) (old new whole : List PlacedTest) (place next : ℕ) (ms : List ModuleValue) (m : ModuleValue) → next ≡ place + 1 → slice_get ms place ≡ Some m
    → new ≡ old ++ placed_in plan place m m.tests → old ++ map (placed_live plan) (live_from place (drop place ms)) ≡ whole → new ++ map (placed_live plan) (live_from next (drop next ms)) ≡ whole
unfolding live_from
module_more plan old new whole place next ms m is at added before =
    let here : map (placed_live plan) (live_of place m) ≡ placed_in plan place m m.tests = map_twice (placed_live plan) (the_live place m) (filter is_live m.tests) in
    let step : suc place ≡ next = omega (arith, is) in
    let split : map (placed_live plan) (live_from place (drop place ms)) ≡ placed_in plan place m m.tests ++ map (placed_live plan) (live_from next (drop next ms)) =
    ap (λ (l : List ModuleValue). map (placed_live plan) (live_from place l)) (drop_at ms place m at)
    ∙ map-append (placed_live plan) (live_of place m) (live_from (place + 1) (drop (suc place) ms))
    ∙ ap (λ l. l ++ map (placed_live plan) (live_from (place + 1) (drop (suc place) ms))) here
    ∙ ap (λ n. placed_in plan place m m.tests ++ map (placed_live plan) (live_from n (drop (suc place) ms))) (sym is)
    ∙ ap (λ n. placed_in plan place m m.tests ++ map (placed_live plan) (live_from next (drop n ms))) step in
    ap (λ l. l ++ map (placed_live plan) (live_from next (drop next ms))) added
    ∙ append_assoc old (placed_in plan place m m.tests) (map (placed_live plan) (live_from next (drop next ms)))
    ∙ ap (λ l. old ++ l) (sym split) ∙ before

-- after the last module
pub modules_all : (plan : PlanValue) (done whole : List PlacedTest) (place : ℕ) (ms : List ModuleValue) → length ms ≤ place → done ++ map (placed_live plan) (live_from place (drop place ms)) ≡ whole → done ≡ whole
unfolding live_from
modules_all plan done whole place ms past before =
    let none : drop place ms ≡ [] = drop_past ms place past in
    let before' = rw none at before in
    sym (append-nil done) ∙ before'

-- ---- by name

-- the names of placed tests are those of the live tests
names_of : (plan : PlanValue) (ls : List LiveTest) → map (λ (p : PlacedTest). p.id) (map (placed_live plan) ls) ≡ map id_of ls
unfolding planned_test
names_of plan [] = refl
names_of plan (l ∷ ls) = ap (λ ids. id_of l ∷ ids) (names_of plan ls)

pub names_placed : (soc : SocValue) (plan : PlanValue) → map (λ (p : PlacedTest). p.id) (placed_tests soc plan) ≡ live_ids soc
names_placed soc plan = ap (map (λ (p : PlacedTest). p.id)) (placed_are soc plan) ∙ names_of plan (live_tests soc)

length_names : (ts : List PlacedTest) → length (map (λ (p : PlacedTest). p.id) ts) ≡ length ts
length_names [] = refl
length_names (t ∷ ts) = ap suc (length_names ts)

first_named : (id : TestId) (ts : List PlacedTest) → position_or_len (same_test id) (map (λ (p : PlacedTest). p.id) ts) ≡ position_or_len (is_called id) ts
first_named id [] = refl
first_named id (t ∷ ts) = elim (cases_Bool (same_test id t.id)) [ inl yes' ↦ rw yes' refl | inr no' ↦ rw no' (ap (λ n. 1 + n) (first_named id ts)) ]

-- a name's place finds the test
pub found_at : (id : TestId) (ts : List PlacedTest) (names : List TestId) (k : ℕ) (d t : PlacedTest) → names ≡ map (λ (p : PlacedTest). p.id) ts → position (same_test id) names ≡ Some k → t ≡ get_or ts k d → (k < length ts) × (find (is_called id) ts ≡ Some t)
found_at id ts names k d t are found is =
    let p = cond_some (nat_lt (position_or_len (same_test id) names) (length names)) (position_or_len (same_test id) names) k found in
    let first : position_or_len (is_called id) ts ≡ k = sym (first_named id ts) ∙ ap (position_or_len (same_test id)) (sym are) ∙ p.1 in
    let long : length names ≡ length ts = ap length are ∙ length_names ts in
    let less : position_or_len (same_test id) names < length names = let t = p.0 in grind (arith, nat_tests) in
    let within : k < length ts = omega (arith, less, p.1, long) in
    (within, find_at (is_called id) ts ∙ ap (slice_get ts) first ∙ slice_get-get_or ts k d within ∙ ap Some (sym is))

-- where no name has a place, no test is found
pub none_found : (id : TestId) (ts : List PlacedTest) (names : List TestId) → names ≡ map (λ (p : PlacedTest). p.id) ts → position (same_test id) names ≡ None → find (is_called id) ts ≡ None
none_found id ts names are none =
    let past = cond_none (nat_lt (position_or_len (same_test id) names) (length names)) (position_or_len (same_test id) names) none in
    let first : position_or_len (is_called id) ts ≡ position_or_len (same_test id) names = sym (first_named id ts) ∙ ap (position_or_len (same_test id)) (sym are) in
    let long : length names ≡ length ts = ap length are ∙ length_names ts in
    let over : length names ≤ position_or_len (same_test id) names = grind (arith, nat_tests) in
    find_at (is_called id) ts ∙ slice_get_past ts (position_or_len (is_called id) ts) (omega (arith, over, first, long))
