-- No two self tests have a cycle of a lane in common.
use Rattle.std.proofs.Common.{◌≡◌, ℕ, zero, suc, ◌+◌, ◌≤◌, ◌<◌, true, Option, None, Some, List, [], ◌∷◌, ◌++◌, length, get_or, position, set, refl, ap, ◌∙◌, arith, inl, inr, ◌⊎◌, slice_get, unwrap_or, ◌&&◌, nat_le, nat_lt, filter}
use Rattle.std.specs.List.{range_with_len}
use Rattle.std.proofs.lemmas.Bool.{cases_Bool, cases_eq, cases_lt, and_parts, leb-true, ltb-true, lt-ltb, le-ltb}
use Rattle.std.proofs.lemmas.List.Quantifiers.{position-Some}
use Rattle.std.proofs.lemmas.Option.{slice_get_within, get_or_from_slice_get}
use Rattle.soc_model.specs.Chips.{SocValue}
use Rattle.plan_model.specs.Plans.{LimitsValue, PlanValue}
use Rattle.plan_model.specs.Rules.{IsGood}
use Rattle.plan_model.proofs.Lists.{from_filter, from_flat_map}
use Rattle.live_tests.specs.Placed.{placed_tests}
use Rattle.live_tests.specs.declared.placed.PlacedTest.{PlacedTest}
use Rattle.picture.specs.declared.panels.Drawn.{Drawn}
use Rattle.picture.specs.Laws.{AreApart}
use Rattle.picture.specs.Rectangles.{covers, drawn_over, free_lane, is_self, laned, starts_at, with_end}
use Rattle.picture.specs.PictureText.{self_tests}
use Rattle.picture.proofs.PartsOfPlans.{ends_by}

-- ---- the ends of lanes

-- a lane is one that has ended, or the one after all
abbrev IsFree : List ℕ → (start lane : ℕ) → Type 0
IsFree ends start lane = ((lane < length ends) × ((e : ℕ) → slice_get ends lane ≡ Some e → e ≤ start)) ⊎ (lane ≡ length ends)

free_by : (ends : List ℕ) (start : ℕ) (o : Option ℕ) → position (λ end. nat_le end start) ends ≡ o → IsFree ends start (unwrap_or o (length ends))
free_by ends start None found = inr refl
free_by ends start (Some lane) found =
    let p = position-Some (λ end. nat_le end start) ends lane 0 found in
    inl (p.0, λ e at. let low : get_or ends lane 0 ≤ start = leb-true (get_or ends lane 0) start p.1 in omega (arith, low, get_or_from_slice_get ends lane e 0 at))

is_free : (ends : List ℕ) (start : ℕ) → IsFree ends start (free_lane ends start)
is_free ends start = free_by ends start (position (λ end. nat_le end start) ends) refl

free_end : (ends : List ℕ) (start lane e : ℕ) → IsFree ends start lane → slice_get ends lane ≡ Some e → e ≤ start
free_end ends start lane e (inl there) at = there.1 e at
free_end ends start lane e (inr after) at = absurd (omega (arith, after, slice_get_within ends lane e at))

free_within : (ends : List ℕ) (start lane : ℕ) → IsFree ends start lane → lane ≤ length ends
free_within ends start lane (inl there) = omega (arith, there.0)
free_within ends start lane (inr after) = omega (arith, after)

set_here : (xs : List ℕ) (l v : ℕ) → l < length xs → slice_get (set xs l v) l ≡ Some v
set_here [] l v h = absurd (omega arith)
set_here (x ∷ xs) zero v h = refl
set_here (x ∷ xs) (suc l) v h = set_here xs l v (omega arith)

set_else : (xs : List ℕ) (l w v : ℕ) → (w ≡ l → ⊥) → slice_get (set xs l v) w ≡ slice_get xs w
set_else [] zero w v other = refl
set_else [] (suc l) w v other = refl
set_else (x ∷ xs) zero zero v other = absurd (other refl)
set_else (x ∷ xs) zero (suc w) v other = refl
set_else (x ∷ xs) (suc l) zero v other = refl
set_else (x ∷ xs) (suc l) (suc w) v other = set_else xs l w v (λ e. other (ap suc e))

last_here : (xs : List ℕ) (l v : ℕ) → l ≡ length xs → slice_get (xs ++ v ∷ []) l ≡ Some v
last_here [] zero v e = refl
last_here [] (suc l) v e = absurd (omega (arith, e))
last_here (x ∷ xs) zero v e = absurd (omega (arith, e))
last_here (x ∷ xs) (suc l) v e = last_here xs l v (omega (arith, e))

front_there : (xs : List ℕ) (w e v : ℕ) → slice_get xs w ≡ Some e → slice_get (xs ++ v ∷ []) w ≡ Some e
front_there [] w e v at = absurd cc
front_there (x ∷ xs) zero e v at = at
front_there (x ∷ xs) (suc w) e v at = front_there xs w e v at

end_here : (ends : List ℕ) (lane v : ℕ) → lane ≤ length ends → slice_get (with_end ends lane v) lane ≡ Some v
end_here ends lane v within = elim (cases_lt lane (length ends)) [
  | inl less ↦ rw (lt-ltb lane (length ends) less) (set_here ends lane v less)
  | inr more ↦ rw (le-ltb lane (length ends) more) (last_here ends lane v (omega (arith, within, more)))
]

end_else : (ends : List ℕ) (lane w e v : ℕ) → (w ≡ lane → ⊥) → slice_get ends w ≡ Some e → slice_get (with_end ends lane v) w ≡ Some e
end_else ends lane w e v other at = elim (cases_lt lane (length ends)) [
  | inl less ↦ rw (lt-ltb lane (length ends) less) (set_else ends lane w v other ∙ at)
  | inr more ↦ rw (le-ltb lane (length ends) more) (front_there ends w e v at)
]

-- ---- test by test

abbrev count : (c w : ℕ) → List Drawn → ℕ
count c w drawn = length (filter (covers c w) drawn)

-- a cycle of a lane is in at most one rectangle, and in none before the lane has ended
record IsOnce (ends : List ℕ) (ts : List PlacedTest) (c w : ℕ) : Type 0 where
  one : count c w (laned ends ts) ≤ 1
  none : (e : ℕ) → slice_get ends w ≡ Some e → c < e → count c w (laned ends ts) ≡ 0

-- what a rectangle that covers a cycle of a lane says of them
record Covers (t : PlacedTest) (lane c w : ℕ) : Type 0 where
  from : t.start ≤ c
  to : c < t.end
  same : w ≡ lane

covers_is : (t : PlacedTest) (lane c w : ℕ) → covers c w (drawn_over t lane (lane + 1)) ≡ true → Covers t lane c w
covers_is t lane c w h =
    let a = and_parts (nat_le t.start c && nat_lt c t.end) (nat_le lane w && nat_lt w (lane + 1)) h in
    let b = and_parts (nat_le t.start c) (nat_lt c t.end) a.0 in
    let d = and_parts (nat_le lane w) (nat_lt w (lane + 1)) a.1 in
    let low : lane ≤ w = leb-true lane w d.0 in
    let high : w < lane + 1 = ltb-true w (lane + 1) d.1 in
    record { from = leb-true t.start c b.0; to = ltb-true c t.end b.1; same = omega (arith, low, high) }

-- one test more, in a lane
next : (t : PlacedTest) (ts : List PlacedTest) (ends : List ℕ) (lane c w : ℕ) → IsFree ends t.start lane → t.start ≤ t.end → IsOnce (with_end ends lane t.end) ts c w → (count c w (drawn_over t lane (lane + 1) ∷ laned (with_end ends lane t.end) ts) ≤ 1) × ((e : ℕ) → slice_get ends w ≡ Some e → c < e → count c w (drawn_over t lane (lane + 1) ∷ laned (with_end ends lane t.end) ts) ≡ 0)
next t ts ends lane c w free order rest = elim (cases_Bool (covers c w (drawn_over t lane (lane + 1)))) [
  | inl yes' ↦
      let is : Covers t lane c w = covers_is t lane c w yes' in
      let here : slice_get (with_end ends lane t.end) w ≡ Some t.end = rw is.same (end_here ends lane t.end (free_within ends t.start lane free)) in
      let none : count c w (laned (with_end ends lane t.end) ts) ≡ 0 = rest.none t.end here is.to in
      rw yes' (omega (arith, none), λ e at less. absurd (omega (arith, free_end ends t.start lane e free (rw is.same at at), is.from, less)))
  | inr no' ↦ rw no' (
    rest.one,
    λ e at less. elim (cases_eq w lane) [
      | inl same ↦
          let here : slice_get (with_end ends lane t.end) w ≡ Some t.end = rw same (end_here ends lane t.end (free_within ends t.start lane free)) in
          rest.none t.end here (omega (arith, free_end ends t.start lane e free (rw same at at), order, less))
      | inr other ↦ rest.none e (end_else ends lane w e t.end other at) less
    ],
  )
]

once : (ts : List PlacedTest) (ends : List ℕ) (c w : ℕ) → ((i : ℕ) (t : PlacedTest) → slice_get ts i ≡ Some t → t.start ≤ t.end) → IsOnce ends ts c w
once [] ends c w later = record { one = omega arith; none = λ e at less. refl }
once (t ∷ ts) ends c w later =
    let lane = free_lane ends t.start in
    let r = next t ts ends lane c w (is_free ends t.start) (later 0 t refl) (once ts (with_end ends lane t.end) c w (λ i u at. later (suc i) u at)) in
    record { one = r.0; none = r.1 }

-- ---- the self tests of a good plan

self_later : (soc : SocValue) (limits : LimitsValue) (plan : PlanValue) → IsGood soc limits plan → (i : ℕ) (t : PlacedTest) → slice_get (self_tests soc plan) i ≡ Some t → t.start ≤ t.end
self_later soc limits plan good i t at =
    let own = filter is_self (placed_tests soc plan) in
    let o = from_flat_map (λ (c : ℕ). filter (starts_at c) own) (range_with_len 0 (plan.cycles + 1)) i t at in
    let k = from_filter (starts_at o.1) own o.2 t o.4 in
    let n = from_filter is_self (placed_tests soc plan) k.0 t k.1 in
    (ends_by soc limits plan good n.0 t n.1).0

pub lanes_apart : (soc : SocValue) (limits : LimitsValue) (plan : PlanValue) → IsGood soc limits plan → AreApart (laned [] (self_tests soc plan))
lanes_apart soc limits plan good = λ c w. (once (self_tests soc plan) [] c w (self_later soc limits plan good)).one
