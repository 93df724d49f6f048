-- The rectangles over the wires of a good plan show which test uses each wire at each cycle, so that no two have a cycle of a wire
-- in common; and no step of power is above the limit.
use Rattle.std.proofs.Common.{◌≡◌, ℕ, zero, suc, ◌+◌, ◌≤◌, true, false, Option, Some, List, [], ◌∷◌, ◌++◌, length, map, take, refl, sym, ap, ◌∙◌, subst, arith, inl, inr, ◌⊎◌, slice_get, slice_index, ◌&&◌, nat_le, nat_lt, filter, sum}
use Rattle.std.specs.List.{range_with_len}
use Rattle.std.proofs.lemmas.Bool.{cases_Bool}
use Rattle.std.proofs.lemmas.List.{length-map, map-append}
use Rattle.std.proofs.lemmas.List.Elements.{filter-append}
use Rattle.std.proofs.lemmas.List.Sums.{length-filter, sum_by-cons}
use Rattle.soc_model.specs.Chips.{SocValue}
use Rattle.plan_model.specs.Plans.{PlanValue, LimitsValue, PlannedTest, planned, power_at, uses, widths, is_active}
use Rattle.plan_model.specs.Right.{IsAt}
use Rattle.plan_model.specs.Rules.{IsGood, Power}
use Rattle.plan_model.proofs.Sums.{at_most_one}
use Rattle.plan_model.proofs.TestsInGoodPlans.{OnBus, on_bus, apart}
use Rattle.live_tests.specs.Loads.{changes}
use Rattle.live_tests.specs.Placed.{bus_over, placed_of, placed_tests}
use Rattle.picture.specs.Laws.{AreApart, ShowsUse, StaysWithin}
use Rattle.picture.specs.PictureText.{plan_steps}
use Rattle.picture.specs.Rectangles.{bus_wires, covers, drawn_test, over_bus, over_wires, wired, wires_from}
use Rattle.picture.proofs.AllDrawn.{bus_there}
use Rattle.common_lemmas.proofs.Lists.{from_map}

-- the wires of a bus
pub wires_at : (first : ℕ) (ws : List ℕ) (b : ℕ) (r : ℕ × ℕ) → slice_get (wires_from first ws) b ≡ Some r → (r.0 ≡ first + sum (take b ws)) × (r.1 ≡ r.0 + slice_index ws b)
wires_at first [] b r at = absurd cc
wires_at first (w ∷ ws) zero r at =
    let same : (first, first + w) ≡ r = cc in
    (omega (arith, ap (λ (p : ℕ × ℕ). p.0) same), omega (arith, ap (λ (p : ℕ × ℕ). p.0) same, ap (λ (p : ℕ × ℕ). p.1) same))
wires_at first (w ∷ ws) (suc b) r at =
    let rest = wires_at (first + w) ws b r at in
    (omega (arith, rest.0, sum_by-cons (λ (n : ℕ). n) w (take b ws)), rest.1)

-- the wires of its bus are those of the test
abbrev HasWires : List (ℕ × ℕ) → PlannedTest → Type 0
HasWires buses t = (r : ℕ × ℕ) → slice_get buses t.bus ≡ Some r → (r.0 ≡ t.first_wire) × (r.1 ≡ t.first_wire + t.width)

-- its bus is there, where it goes over the wires
abbrev IsThere : List (ℕ × ℕ) → PlannedTest → Type 0
IsThere buses t = t.tam ≡ true → (r : ℕ × ℕ) × (slice_get buses t.bus ≡ Some r)

has_wires : (soc : SocValue) (plan : PlanValue) (i : ℕ) (t : PlannedTest) → IsAt (planned soc plan) i t → HasWires (bus_wires plan) t
has_wires soc plan i t at r there =
    let b : OnBus plan t = on_bus soc plan i t at in
    let w = wires_at 0 (widths plan) t.bus r there in
    (omega (arith, w.0, b.first), omega (arith, w.0, w.1, b.first, b.wide))

-- ---- a rectangle has a cycle of a wire exactly where its test uses it

used_here : (t : PlannedTest) (c w : ℕ) (o : Option (ℕ × ℕ)) (r : ℕ × ℕ) → o ≡ Some r → (r.0 ≡ t.first_wire) × (r.1 ≡ t.first_wire + t.width) → t.tam ≡ true → map drawn_test (filter (covers c w) (over_wires (placed_of t) o)) ≡ map placed_of (filter (uses c w) (t ∷ []))
used_here t c w o r there e tam = elim (cases_Bool (is_active c t && (nat_le t.first_wire w && nat_lt w (t.first_wire + t.width)))) [
  | inl yes' ↦ rw (there, e.0, e.1, tam, yes') refl
  | inr no' ↦ rw (there, e.0, e.1, tam, no') refl
]

one_used : (buses : List (ℕ × ℕ)) (t : PlannedTest) (c w : ℕ) → HasWires buses t → IsThere buses t → (t.tam ≡ true) ⊎ (t.tam ≡ false) → map drawn_test (filter (covers c w) (over_bus buses (placed_of t) (bus_over t.tam t.bus))) ≡ map placed_of (filter (uses c w) (t ∷ []))
one_used buses t c w wires there (inl tam) =
    let r = there tam in
    subst (λ b. map drawn_test (filter (covers c w) (over_bus buses (placed_of t) (bus_over b t.bus))) ≡ map placed_of (filter (uses c w) (t ∷ []))) (sym tam) (used_here t c w (slice_get buses t.bus) r.0 r.1 (wires r.0 r.1) tam)
one_used buses t c w wires there (inr self) =
    let none : filter (uses c w) (t ∷ []) ≡ [] = rw self refl in
    subst (λ b. map drawn_test (filter (covers c w) (over_bus buses (placed_of t) (bus_over b t.bus))) ≡ map placed_of (filter (uses c w) (t ∷ []))) (sym self) (sym (ap (map placed_of) none))

all_used : (buses : List (ℕ × ℕ)) (ts : List PlannedTest) (c w : ℕ) → ((i : ℕ) (t : PlannedTest) → slice_get ts i ≡ Some t → HasWires buses t × IsThere buses t) → map drawn_test (filter (covers c w) (wired buses (map placed_of ts))) ≡ map placed_of (filter (uses c w) ts)
all_used buses [] c w wires = refl
all_used buses (t ∷ ts) c w wires =
    let mine = over_bus buses (placed_of t) (bus_over t.tam t.bus) in
    let rest = wired buses (map placed_of ts) in
    let own = wires 0 t refl in
    let one : map drawn_test (filter (covers c w) mine) ≡ map placed_of (filter (uses c w) (t ∷ [])) = one_used buses t c w own.0 own.1 (cases_Bool t.tam) in
    let more : map drawn_test (filter (covers c w) rest) ≡ map placed_of (filter (uses c w) ts) = all_used buses ts c w (λ i u at. wires (suc i) u at) in
    ap (map drawn_test) (filter-append (covers c w) mine rest) ∙ map-append drawn_test (filter (covers c w) mine) (filter (covers c w) rest)
    ∙ ap (λ l. l ++ map drawn_test (filter (covers c w) rest)) one ∙ ap (λ l. map placed_of (filter (uses c w) (t ∷ [])) ++ l) more
    ∙ sym (ap (map placed_of) (filter-append (uses c w) (t ∷ []) ts) ∙ map-append placed_of (filter (uses c w) (t ∷ [])) (filter (uses c w) ts))

pub wires_used : (soc : SocValue) (limits : LimitsValue) (plan : PlanValue) → IsGood soc limits plan → ShowsUse (wired (bus_wires plan) (placed_tests soc plan)) (planned soc plan)
wires_used soc limits plan good = λ c w.
    all_used (bus_wires plan) (planned soc plan) c w (λ i t at. (has_wires soc plan i t at, bus_there soc limits plan good i t at))

one_user : (soc : SocValue) (limits : LimitsValue) (plan : PlanValue) → IsGood soc limits plan → (c w : ℕ) → length (filter (uses c w) (planned soc plan)) ≤ 1
one_user soc limits plan good c w =
    let a = apart soc limits plan good in
    rw (length-filter (uses c w) (planned soc plan)) (at_most_one (uses c w) (planned soc plan) (λ i j t u order at at' p q. let same : j ≡ i = a.alone c w i j t u at at' p q in omega arith))

pub rectangles_apart : (soc : SocValue) (limits : LimitsValue) (plan : PlanValue) → IsGood soc limits plan → AreApart (wired (bus_wires plan) (placed_tests soc plan))
rectangles_apart soc limits plan good = λ c w.
    let drawn = filter (covers c w) (wired (bus_wires plan) (placed_tests soc plan)) in
    let same : length drawn ≡ length (filter (uses c w) (planned soc plan)) =
    sym (length-map drawn drawn_test) ∙ ap length (wires_used soc limits plan good c w) ∙ length-map (filter (uses c w) (planned soc plan)) placed_of in
    omega (arith, same, one_user soc limits plan good c w)

-- ---- the steps of power

pub steps_within : (soc : SocValue) (limits : LimitsValue) (plan : PlanValue) → IsGood soc limits plan → StaysWithin limits (plan_steps soc limits plan)
steps_within soc limits plan good most i s limit there =
    let load = power_at limits (planned soc plan) in
    let c = from_map (λ (c : ℕ). (c, load c)) (filter (changes load) (range_with_len 0 (plan.cycles + 1))) i s there in
    let low = rw limit at (good Power c.0) in
    omega (arith, low, ap (λ (p : ℕ × ℕ). p.1) c.2)
