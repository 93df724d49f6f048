-- Each self test of a good plan has one rectangle, over its own cycles in one lane.
use Rattle.std.proofs.Common.{◌≡◌, ℕ, zero, suc, ◌+◌, ◌≤◌, ◌<◌, Some, List, [], ◌∷◌, ◌++◌, map, refl, sym, ap, subst, arith, inl, inr, slice_get, filter}
use Rattle.std.specs.List.Sorted.{IsPermutation}
use Rattle.std.proofs.lemmas.Bool.{cases_eq, eq-eqb, ne_eqb}
use Rattle.std.proofs.lemmas.List.Sorted.{IsPermutation-append_right, IsPermutation-cons, IsPermutation-middle, IsPermutation-refl, IsPermutation-sym, IsPermutation-trans}
use Rattle.soc_model.specs.Chips.{SocValue}
use Rattle.plan_model.specs.Plans.{LimitsValue, PlanValue}
use Rattle.plan_model.specs.Rules.{IsGood}
use Rattle.plan_model.proofs.Lists.{from_filter}
use Rattle.live_tests.specs.Placed.{placed_tests}
use Rattle.live_tests.specs.declared.placed.PlacedTest.{PlacedTest}
use Rattle.picture.specs.declared.panels.Drawn.{Drawn}
use Rattle.picture.specs.Laws.{AreLaned, IsInLane}
use Rattle.picture.specs.PictureText.{self_tests}
use Rattle.picture.specs.Rectangles.{drawn_over, drawn_test, free_lane, is_self, laned, starts_at, with_end}
use Rattle.picture.proofs.PartsOfPlans.{ends_by}
use Rattle.picture.proofs.Starts.{no_parts, parts, skip}

-- ---- cycle by cycle those that start there are all, in another order

one_moved : (t : PlacedTest) (ts : List PlacedTest) (low n : ℕ) → low ≤ t.start → t.start < low + n → IsPermutation (t ∷ parts low n ts) (parts low n (t ∷ ts))
one_moved t ts low zero from to = absurd (omega (arith, from, to))
one_moved t ts low (suc n) from to = elim (cases_eq t.start low) [
  | inl same ↦
      let here : parts low (suc n) (t ∷ ts) ≡ t ∷ parts low (suc n) ts = rw (eq-eqb t.start low same) (ap (λ l. t ∷ (filter (starts_at low) ts ++ l)) (skip t ts (low + 1) n (omega (arith, same)))) in
      subst (λ l. IsPermutation (t ∷ parts low (suc n) ts) l) (sym here) (IsPermutation-refl (t ∷ parts low (suc n) ts))
  | inr other ↦
      let front = filter (starts_at low) ts in
      let later : parts low (suc n) (t ∷ ts) ≡ front ++ parts (low + 1) n (t ∷ ts) = rw (ne_eqb t.start low other) refl in
      let rest = one_moved t ts (low + 1) n (omega (arith, from, other)) (omega (arith, to)) in
      let to_front = IsPermutation-sym (front ++ t ∷ parts (low + 1) n ts) (t ∷ (front ++ parts (low + 1) n ts)) (IsPermutation-middle front t (parts (low + 1) n ts)) in
      subst (λ l. IsPermutation (t ∷ parts low (suc n) ts) l) (sym later)
      (IsPermutation-trans (t ∷ (front ++ parts (low + 1) n ts)) (front ++ t ∷ parts (low + 1) n ts) (front ++ parts (low + 1) n (t ∷ ts)) to_front (IsPermutation-append_right front (t ∷ parts (low + 1) n ts) (parts (low + 1) n (t ∷ ts)) rest))
]

all_moved : (ts : List PlacedTest) (n : ℕ) → ((i : ℕ) (t : PlacedTest) → slice_get ts i ≡ Some t → t.start < 0 + n) → IsPermutation ts (parts 0 n ts)
all_moved [] n starts = subst (λ l. IsPermutation [] l) (sym (no_parts 0 n)) (IsPermutation-refl [])
all_moved (t ∷ ts) n starts =
    IsPermutation-trans (t ∷ ts) (t ∷ parts 0 n ts) (parts 0 n (t ∷ ts)) (IsPermutation-cons t ts (parts 0 n ts) (all_moved ts n (λ i u at. starts (suc i) u at))) (one_moved t ts 0 n (omega arith) (starts 0 t refl))

-- ---- in lanes

pub laned_tests : (ends : List ℕ) (ts : List PlacedTest) → map drawn_test (laned ends ts) ≡ ts
laned_tests ends [] = refl
laned_tests ends (t ∷ ts) = ap (λ l. t ∷ l) (laned_tests (with_end ends (free_lane ends t.start) t.end) ts)

pub in_lanes : (ends : List ℕ) (ts : List PlacedTest) (i : ℕ) (d : Drawn) → slice_get (laned ends ts) i ≡ Some d → IsInLane d
in_lanes ends [] i d at = absurd cc
in_lanes ends (t ∷ ts) zero d at =
    let lane = free_lane ends t.start in
    let same : drawn_over t lane (lane + 1) ≡ d = cc in
    subst (λ (d : Drawn). IsInLane d) same (lane, refl)
in_lanes ends (t ∷ ts) (suc i) d at = in_lanes (with_end ends (free_lane ends t.start) t.end) ts i d at

-- ---- the self tests of a good plan

pub self_tests_laned : (soc : SocValue) (limits : LimitsValue) (plan : PlanValue) → IsGood soc limits plan → AreLaned (laned [] (self_tests soc plan)) (placed_tests soc plan)
self_tests_laned soc limits plan good =
    let own = filter is_self (placed_tests soc plan) in
    let early : (i : ℕ) (t : PlacedTest) → slice_get own i ≡ Some t → t.start < 0 + (plan.cycles + 1) = λ i t at.
    let k = from_filter is_self (placed_tests soc plan) i t at in
    let e = ends_by soc limits plan good k.0 t k.1 in
    omega (arith, e.0, e.1) in
    record {
      once = subst (λ l. IsPermutation own l) (sym (laned_tests [] (self_tests soc plan))) (all_moved own (plan.cycles + 1) early);
      in_lanes = in_lanes [] (self_tests soc plan);
    }
