-- What stands behind a planned test: its live test, and in a good plan its wrapper and its bus.
use Rattle.std.proofs.Common.{◌≡◌, ℕ, zero, suc, ◌+◌, ◌≤◌, ◌<◌, Bool, true, false, Some, List, [], ◌∷◌, ◌++◌, length, get_or, map, take, refl, ap, sym, subst, arith, inl, inr}
use Rattle.std.specs.Prelude.{slice_get, slice_index, nat_eq, ◌&&◌}
use Rattle.std.specs.List.{sum, filter}
use Rattle.std.proofs.lemmas.List.{get_or_past, take-take, take_all}
use Rattle.std.proofs.lemmas.List.Sums.{sum_by_more, sum_by-take-le}
use Rattle.std.proofs.lemmas.Bool.{cases_lt, cases_Bool, and_parts, eqb-true, eq-eqb, cases_order}
use Rattle.soc_model.specs.declared.Test.{Test}
use Rattle.soc_model.specs.Chips.{ModuleValue, SocValue, LiveTest, is_live, live_of, live_from, live_tests}
use Rattle.plan_model.specs.Cells.{chain_cells}
use Rattle.plan_model.specs.Plans.{WrapperValue, PlanValue, LimitsValue, PlannedTest, planned, planned_test, chains_of, of_first, wraps, same_mode}
use Rattle.plan_model.specs.Right.{IsAt}
use Rattle.plan_model.specs.Rules.{IsGood, Wrappers, Each, HasWrapper, used_pairs, uses_mode, mode_pair, pair_of}
use Rattle.plan_model.proofs.Lists.{from_append, from_filter, any_from, in_append_right, in_flat_map}
use Rattle.common_lemmas.proofs.Lists.{from_map, contains_at, at_left}

-- ---- where an item of joined lists comes from

-- a live test of the chip
pub record IsLive (ms : List ModuleValue) (base : ℕ) (l : LiveTest) : Type 0 where
  pub up : ℕ
  pub place_is : l.place ≡ base + up
  pub n : ℕ
  pub module_at : slice_get ms up ≡ Some l.core
  pub test_at : slice_get (filter is_live l.core.tests) n ≡ Some l.test

pub live_here : (base : ℕ) (m : ModuleValue) (ms : List ModuleValue) (i : ℕ) (l : LiveTest) → slice_get (live_of base m) i ≡ Some l → IsLive (m ∷ ms) base l
live_here base m ms i l e =
    let b = from_map (λ (t : Test). the_test base m t) (filter is_live m.tests) i l e in
    subst (IsLive (m ∷ ms) base) b.2 (record { up = 0; place_is = omega arith; n = i; module_at = refl; test_at = b.1 })
  where
    the_test : ℕ → ModuleValue → Test → LiveTest
    the_test base m t = record { place = base; core = m; test = t }

pub live_at : (ms : List ModuleValue) (base i : ℕ) (l : LiveTest) → slice_get (live_from base ms) i ≡ Some l → IsLive ms base l
unfolding live_from
live_at [] base i l e = absurd cc
live_at (m ∷ ms) base i l e = elim (from_append (live_of base m) (live_from (base + 1) ms) i l e) [
  | inl a ↦ live_here base m ms i l a
  | inr a ↦
      let o : IsLive ms (base + 1) l = live_at ms (base + 1) a.0 l a.2 in
      record { up = suc o.up; place_is = omega (arith, o.place_is); n = o.n; module_at = o.module_at; test_at = o.test_at }
]

-- the live test that a planned test is
pub record Origin (soc : SocValue) (plan : PlanValue) (i : ℕ) (t : PlannedTest) : Type 0 where
  pub l : LiveTest
  pub at : slice_get (live_tests soc) i ≡ Some l
  pub n : ℕ
  pub module_at : slice_get soc.modules l.place ≡ Some l.core
  pub test_at : slice_get (filter is_live l.core.tests) n ≡ Some l.test
  pub is : planned_test plan l.place l.core l.test ≡ t

pub origin : (soc : SocValue) (plan : PlanValue) (i : ℕ) (t : PlannedTest) → IsAt (planned soc plan) i t → Origin soc plan i t
unfolding planned
origin soc plan i t e =
    let b = from_map (λ (l : LiveTest). planned_test plan l.place l.core l.test) (live_tests soc) i t e in
    let o : IsLive soc.modules 0 b.0 = live_at soc.modules 0 i b.0 b.1 in
    let same : o.up ≡ (b.0).place = omega (arith, o.place_is) in
    record { l = b.0; at = b.1; n = o.n; module_at = rw same at o.module_at; test_at = o.test_at; is = b.2 }

-- ---- the first that passes

pub of_first_is : {X Y : Type 0} (p : X → Bool) (f : X → Y) (d : Y) (xs : List X) (i : ℕ) (x : X) → slice_get xs i ≡ Some x → p x ≡ true →
    (j : ℕ) × (y : X) × (slice_get xs j ≡ Some y) × (p y ≡ true) × (of_first p f d xs ≡ f y)
of_first_is p f d [] i x e h = absurd cc
of_first_is p f d (z ∷ xs) zero x e h =
    let same : z ≡ x = cc in
    let passes : p z ≡ true = rw same h in
    (0, z, refl, passes, rw passes refl)
of_first_is p f d (z ∷ xs) (suc i) x e h = elim (cases_Bool (p z)) [
  | inl yes' ↦ (0, z, refl, yes', rw yes' refl)
  | inr no' ↦ let r = of_first_is p f d xs i x e h in (suc r.0, r.1, r.2, r.3, rw no' r.4)
]

-- ---- wires of buses

pub same_bus : (ws : List ℕ) (b b' x : ℕ) → sum (take b ws) ≤ x → x < sum (take b ws) + slice_index ws b → sum (take b' ws) ≤ x → x < sum (take b' ws) + slice_index ws b' → b ≡ b'
same_bus ws b b' x low high low' high' = elim (cases_order b b') [
  | inl same ↦ same
  | inr apart ↦ elim apart [ inl less ↦ absurd (before b b' less low' high) | inr more ↦ absurd (before b' b more low high') ]
]
  where
    before : (b b' : ℕ) → b < b' → sum (take b' ws) ≤ x → x < sum (take b ws) + slice_index ws b → ⊥
    before b b' less low high = elim (cases_lt b (length ws)) [
      | inl within ↦
          let one_more : sum (take (b + 1) ws) ≡ sum (take b ws) + get_or ws b 0 = sum_by_more (λ x. x) ws b 0 within in
          let front : take (b + 1) (take b' ws) ≡ take (b + 1) ws = take-take (b + 1) b' ws (omega arith) in
          let less' : sum (take (b + 1) (take b' ws)) ≤ sum (take b' ws) = sum_by-take-le (λ x. x) (take b' ws) (b + 1) in
          let less2 = rw front at less' in
          omega arith
      | inr past ↦
          let none : get_or ws b 0 ≡ 0 = get_or_past ws b 0 past in
          let all : take b ws ≡ ws = take_all b ws past in
          let all' : take b' ws ≡ ws = take_all b' ws (omega arith) in
          let low2 = rw all' at low in
          let high2 = rw all at high in
          omega arith
    ]

-- ---- the wrapper of a planned TAM test

pub wraps_from : (w : WrapperValue) (m : ℕ) (scan : Bool) → w.«module» ≡ m → w.scan ≡ scan → wraps m scan w ≡ true
wraps_from w m scan a b = rw (b, eq-eqb w.«module» m a) (same_mode_itself scan) where
  same_mode_itself : (b : Bool) → same_mode b b ≡ true
  same_mode_itself true = refl
  same_mode_itself false = refl

pub same_mode_is : (a b : Bool) → same_mode a b ≡ true → a ≡ b
same_mode_is true b e = sym e
same_mode_is false true e = e
same_mode_is false false e = refl

-- the wrapper of a test over the wires
pub record Wrapped (plan : PlanValue) (m : ModuleValue) (test : Test) : Type 0 where
  pub n : ℕ
  pub w : WrapperValue
  pub at : slice_get plan.wrappers n ≡ Some w
  pub module_is : w.«module» ≡ m.number
  pub scan_is : w.scan ≡ test.scan
  pub chains_are : chains_of plan m test ≡ chain_cells m test.scan w.chains

same_mode_itself : (b : Bool) → same_mode b b ≡ true
same_mode_itself true = refl
same_mode_itself false = refl

pub pair_used : (m : ModuleValue) (scan : Bool) → uses_mode scan m ≡ true → (j : ℕ) × (slice_get (mode_pair true m ++ mode_pair false m) j ≡ Some (m.number, scan))
pair_used m true used = (0, at_left (mode_pair true m) (mode_pair false m) 0 (m.number, true) (rw used refl))
pair_used m false used = in_append_right (mode_pair true m) (mode_pair false m) 0 (m.number, false) (rw used refl)

wrapper_found : (plan : PlanValue) (m : ModuleValue) (test : Test) (k : ℕ) (w : WrapperValue) → test.tam ≡ true → slice_get plan.wrappers k ≡ Some w → pair_of w ≡ (m.number, test.scan) → Wrapped plan m test
wrapper_found plan m test k w tam at pair =
    let passes : wraps m.number test.scan w ≡ true = wraps_from w m.number test.scan (ap (λ (p : ℕ × Bool). p.0) pair) (ap (λ (p : ℕ × Bool). p.1) pair) in
    let r = of_first_is (wraps m.number test.scan) (λ (w : WrapperValue). w.chains) [] plan.wrappers k w at passes in
    let is = and_parts (nat_eq (r.1).«module» m.number) (same_mode (r.1).scan test.scan) r.3 in
    record {
      n = r.0;
      w = r.1;
      at = r.2;
      module_is = eqb-true (r.1).«module» m.number is.0;
      scan_is = same_mode_is (r.1).scan test.scan is.1;
      chains_are = rw (tam, r.4) refl;
    }

pub wrapped_by : (soc : SocValue) (plan : PlanValue) → Each (HasWrapper plan) (used_pairs soc) → (place n : ℕ) (m : ModuleValue) (test : Test) → slice_get soc.modules place ≡ Some m → slice_get (filter is_live m.tests) n ≡ Some test → test.tam ≡ true → Wrapped plan m test
wrapped_by soc plan have place n m test at test_at tam =
    let t = from_filter is_live m.tests n test test_at in
    let used : uses_mode test.scan m ≡ true = any_from (λ (t : Test). is_live t && (t.tam && same_mode test.scan t.scan)) m.tests t.0 test t.1 (rw (t.2, tam) (same_mode_itself test.scan)) in
    let j = pair_used m test.scan used in
    let i = in_flat_map (λ (m : ModuleValue). mode_pair true m ++ mode_pair false m) soc.modules place j.0 m (m.number, test.scan) at j.1 in
    let k = contains_at (map pair_of plan.wrappers) (m.number, test.scan) (have i.0 (m.number, test.scan) i.1) in
    let w = from_map pair_of plan.wrappers k.0 (m.number, test.scan) k.1 in
    wrapper_found plan m test k.0 w.0 tam w.1 w.2

pub wrapped : (soc : SocValue) (limits : LimitsValue) (plan : PlanValue) (good : IsGood soc limits plan) (place n : ℕ) (m : ModuleValue) (test : Test) → slice_get soc.modules place ≡ Some m → slice_get (filter is_live m.tests) n ≡ Some test → test.tam ≡ true → Wrapped plan m test
wrapped soc limits plan good place n m test at test_at tam = wrapped_by soc plan (good Wrappers).1 place n m test at test_at tam
