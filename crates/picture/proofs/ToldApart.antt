-- In the picture of a good plan no two neighbours have one fill.
use Rattle.std.proofs.Common.{◌≡◌, ℕ, zero, suc, ◌+◌, ◌*◌, ◌/◌, ◌%◌, ◌≤◌, ◌<◌, Bool, true, false, cond, Option, None, Some, List, [], length, take, refl, sym, ap, subst, ◌∙◌, arith, inl, inr, slice_get, slice_index, nat_eq, is_none, option_map, ◌&&◌, count_by, filter, sum}
use Rattle.std.specs.List.{range_with_len}
use Rattle.std.proofs.Math.Nat.{div-add-mod, mod-lt}
use Rattle.std.proofs.lemmas.Bool.{and_parts, cases_Bool, cases_eq, cases_lt, eq-eqb, eqb-true, ne_eqb, leb-true, lt-ltb, le-leb, le-ltb}
use Rattle.std.proofs.lemmas.List.Sums.{length-filter}
use Rattle.std.proofs.lemmas.Option.{slice_get-map}
use Rattle.soc_model.specs.Chips.{SocValue, is_live}
use Rattle.plan_model.specs.Plans.{LimitsValue, PlanValue, PlannedTest, end_of, planned, widths}
use Rattle.plan_model.specs.Rules.{IsGood}
use Rattle.plan_model.proofs.GoodPlansRunRight.{planned_some}
use Rattle.plan_model.proofs.Lists.{from_filter, from_flat_map}
use Rattle.plan_model.proofs.PlannedTests.{Origin, origin}
use Rattle.plan_model.proofs.Sums.{sum_by-le_at, item-le-sum_by}
use Rattle.live_tests.specs.declared.placed.PlacedTest.{PlacedTest}
use Rattle.live_tests.specs.Placed.{bus_over, placed_of, placed_tests}
use Rattle.picture.specs.declared.panels.Drawn.{Drawn}
use Rattle.picture.specs.Fills.{band, earlier, fill_by, fill_of, is_earlier}
use Rattle.picture.specs.Laws.{AreApart, AreToldApart, ComesNext, IsInLane}
use Rattle.picture.specs.PictureText.{self_tests}
use Rattle.picture.specs.Rectangles.{bus_wires, covers, drawn_over, drawn_test, is_self, laned, over_bus, over_wires, starts_at, wired}
use Rattle.picture.proofs.AllDrawn.{bus_wide}
use Rattle.picture.proofs.Apart.{rectangles_apart, wires_at}
use Rattle.picture.proofs.LanesApart.{lanes_apart}
use Rattle.picture.proofs.SelfTests.{in_lanes, laned_tests}
use Rattle.picture.proofs.StartsCounted.{count_split}
use Rattle.common_lemmas.proofs.Lists.{from_map}

-- ---- even and odd

-- of two numbers, one after the other, the remainders differ
odd_even : (n q q' r r' : ℕ) → 2 * q + r ≡ n → 2 * q' + r' ≡ n + 1 → r ≡ r' → ⊥
odd_even n q q' r r' is is' same = omega (arith, is, is', same)

next_remainder : (n : ℕ) → n % 2 ≡ (n + 1) % 2 → ⊥
next_remainder n same = odd_even n (n / 2) ((n + 1) / 2) (n % 2) ((n + 1) % 2) (div-add-mod n 2) (div-add-mod (n + 1) 2) same

small_remainder : (n : ℕ) → n % 2 ≤ 1
small_remainder n = let less : n % 2 < 2 = mod-lt n (omega arith) in omega (arith, less)

-- two pairs of such remainders
same_parts : (r r' x y : ℕ) → x ≤ 1 → y ≤ 1 → 2 * r + x ≡ 2 * r' + y → (r ≡ r') × (x ≡ y)
same_parts r r' x y low low' same = (omega (arith, low, low', same), omega (arith, low, low', same))

beside_differs : (b place place' : ℕ) → fill_by (b + 1) place' ≡ fill_by b place → ⊥
beside_differs b place place' same =
    let parts = same_parts ((b + 1) % 2) (b % 2) (place' % 2) (place % 2) (small_remainder place') (small_remainder place) same in
    next_remainder b (sym parts.0)

next_differs : (b place : ℕ) → fill_by b (place + 1) ≡ fill_by b place → ⊥
next_differs b place same =
    let parts = same_parts (b % 2) (b % 2) ((place + 1) % 2) (place % 2) (small_remainder (place + 1)) (small_remainder place) same in
    next_remainder place (sym parts.1)

-- ---- one start at a time

-- it is in the band, and starts at the cycle
abbrev is_start : (band cycle : ℕ) → Drawn → Bool
is_start b c d = nat_eq (band d) b && nat_eq d.rectangle.start c

abbrev StartAlone : List Drawn → Type 0
StartAlone drawn = (b c : ℕ) → count_by (is_start b c) drawn ≤ 1

-- of a band those that start before the next one start before this one, or with it
one_counted : (b from to : ℕ) (f : Drawn) → from < to → (band f ≡ b → from < f.rectangle.start → to ≤ f.rectangle.start) → ◌≡◌ {A = ℕ} (cond (is_earlier b to f) 1 0) (cond (is_earlier b from f) 1 0 + cond (is_start b from f) 1 0)
one_counted b from to f order none = elim (cases_eq (band f) b) [
  | inr other ↦ rw (ne_eqb (band f) b other) refl
  | inl same ↦ elim (cases_lt f.rectangle.start from) [
    | inl less ↦
        let before : f.rectangle.start < to = omega (arith, less, order) in
        let differs : nat_eq f.rectangle.start from ≡ false = ne_eqb f.rectangle.start from (λ e. omega (arith, e, less)) in
        rw (eq-eqb (band f) b same, lt-ltb f.rectangle.start from less, lt-ltb f.rectangle.start to before, differs) refl
    | inr more ↦ elim (cases_eq f.rectangle.start from) [
      | inl here ↦
          let before : f.rectangle.start < to = omega (arith, here, order) in
          rw (eq-eqb (band f) b same, le-ltb f.rectangle.start from more, lt-ltb f.rectangle.start to before, eq-eqb f.rectangle.start from here) refl
      | inr later ↦
          let past : to ≤ f.rectangle.start = none same (omega (arith, more, later)) in
          rw (eq-eqb (band f) b same, le-ltb f.rectangle.start from more, le-ltb f.rectangle.start to past, ne_eqb f.rectangle.start from later) refl
    ]
  ]
]

next_place : (drawn : List Drawn) (i : ℕ) (d e : Drawn) → slice_get drawn i ≡ Some d → StartAlone drawn → ComesNext drawn d e → earlier drawn (band d) e.rectangle.start ≡ earlier drawn (band d) d.rectangle.start + 1
next_place drawn i d e at alone next =
    let b = band d in
    let c = d.rectangle.start in
    let split = count_split (is_earlier b e.rectangle.start) (is_earlier b c) (is_start b c) drawn (λ k f there. one_counted b c e.rectangle.start f next.later (next.none_between k f there)) in
    let own : ◌≡◌ {A = ℕ} (cond (is_start b c d) 1 0) 1 = rw (eq-eqb b b refl, eq-eqb c c refl) refl in
    let some : cond (is_start b c d) 1 0 ≤ count_by (is_start b c) drawn = item-le-sum_by (λ f. cond (is_start b c f) 1 0) drawn i d at in
    omega (arith, split, own, some, alone b c)

told_apart : (drawn : List Drawn) → StartAlone drawn → AreToldApart drawn
told_apart drawn alone i j d e at at' (inl next) same =
    let place = ap (λ b. earlier drawn b e.rectangle.start) next.same_band ∙ next_place drawn i d e at alone next in
    let is : fill_of drawn e ≡ fill_by (band d) (earlier drawn (band d) d.rectangle.start + 1) =
    ap (λ b. fill_by b (earlier drawn (band e) e.rectangle.start)) next.same_band ∙ ap (fill_by (band d)) place in
    next_differs (band d) (earlier drawn (band d) d.rectangle.start) (sym is ∙ same)
told_apart drawn alone i j d e at at' (inr beside) same =
    let is : fill_of drawn e ≡ fill_by (band d + 1) (earlier drawn (band e) e.rectangle.start) = ap (λ b. fill_by b (earlier drawn (band e) e.rectangle.start)) beside in
    beside_differs (band d) (earlier drawn (band d) d.rectangle.start) (earlier drawn (band e) e.rectangle.start) (sym is ∙ same)

-- ---- where no two rectangles have a cycle of a row in common

-- each band has a row that all its rectangles have at their start
abbrev HaveRow : List Drawn → (row : ℕ → ℕ) → Type 0
HaveRow drawn row = (k : ℕ) (f : Drawn) → slice_get drawn k ≡ Some f → covers f.rectangle.start (row (band f)) f ≡ true

one_covers : (row : ℕ → ℕ) (b c : ℕ) (f : Drawn) → covers f.rectangle.start (row (band f)) f ≡ true → cond (is_start b c f) 1 0 ≤ cond (covers c (row b) f) 1 0
one_covers row b c f covered = elim (cases_Bool (is_start b c f)) [
  | inr no' ↦ rw no' (omega arith)
  | inl yes' ↦
      let parts = and_parts (nat_eq (band f) b) (nat_eq f.rectangle.start c) yes' in
      let in_band : band f ≡ b = eqb-true (band f) b parts.0 in
      let start : f.rectangle.start ≡ c = eqb-true f.rectangle.start c parts.1 in
      let there : covers c (row b) f ≡ true = subst (λ s. covers s (row b) f ≡ true) start (subst (λ n. covers f.rectangle.start (row n) f ≡ true) in_band covered) in
      rw (yes', there) (omega arith)
]

start_alone : (drawn : List Drawn) (row : ℕ → ℕ) → AreApart drawn → HaveRow drawn row → StartAlone drawn
start_alone drawn row apart have b c =
    let low : count_by (is_start b c) drawn ≤ count_by (covers c (row b)) drawn = sum_by-le_at (λ f. cond (is_start b c f) 1 0) (λ f. cond (covers c (row b) f) 1 0) drawn (λ k f at. one_covers row b c f (have k f at)) in
    omega (arith, low, length-filter (covers c (row b)) drawn, apart c (row b))

covers_start : (t : PlacedTest) (first last row : ℕ) → t.start < t.end → first ≤ row → row < last → covers t.start row (drawn_over t first last) ≡ true
covers_start t first last row some low high =
    let at_start : t.start ≤ t.start = omega arith in
    rw (le-leb t.start t.start at_start, lt-ltb t.start t.end some, le-leb first row low, lt-ltb row last high) refl

-- ---- the tests of a plan

-- a live test takes a cycle at least
some_cycle : (soc : SocValue) (plan : PlanValue) (i : ℕ) (t : PlacedTest) → slice_get (placed_tests soc plan) i ≡ Some t → t.start < t.end
some_cycle soc plan i t at =
    let u = from_map placed_of (planned soc plan) i t at in
    let o : Origin soc plan i u.0 = origin soc plan i u.0 u.1 in
    let live : 1 ≤ o.l.test.patterns = leb-true 1 o.l.test.patterns ((from_filter is_live o.l.core.tests o.n o.l.test o.test_at).2) in
    let some : 1 ≤ length (u.0).operations = subst (λ (t : PlannedTest). 1 ≤ length t.operations) o.is (planned_some plan o.l.place o.l.core o.l.test live) in
    let start : (u.0).start ≡ t.start = ap (λ (t : PlacedTest). t.start) u.2 in
    let end : end_of u.0 ≡ t.end = ap (λ (t : PlacedTest). t.end) u.2 in
    omega (arith, some, start, end)

-- ---- over the wires

-- a rectangle over the wires of a bus
record IsOverBus (buses : List (ℕ × ℕ)) (t : PlacedTest) (f : Drawn) : Type 0 where
  bus : ℕ
  wires : ℕ × ℕ
  bus_is : t.bus ≡ Some bus
  wires_are : slice_get buses bus ≡ Some wires
  is : drawn_over t wires.0 wires.1 ≡ f

from_wires : (buses : List (ℕ × ℕ)) (t : PlacedTest) (b j : ℕ) (o : Option (ℕ × ℕ)) (f : Drawn) → t.bus ≡ Some b → slice_get buses b ≡ o → slice_get (over_wires t o) j ≡ Some f → IsOverBus buses t f
from_wires buses t b j None f bus wires at = absurd cc
from_wires buses t b zero (Some r) f bus wires at = record { bus = b; wires = r; bus_is = bus; wires_are = wires; is = cc }
from_wires buses t b (suc j) (Some r) f bus wires at = absurd cc

from_bus : (buses : List (ℕ × ℕ)) (t : PlacedTest) (j : ℕ) (o : Option ℕ) (f : Drawn) → t.bus ≡ o → slice_get (over_bus buses t o) j ≡ Some f → IsOverBus buses t f
from_bus buses t j None f bus at = absurd cc
from_bus buses t j (Some b) f bus at = from_wires buses t b j (slice_get buses b) f bus refl at

bus_of : (tam : Bool) (bus b : ℕ) → bus_over tam bus ≡ Some b → (tam ≡ true) × (bus ≡ b)
bus_of true bus b is = (refl, cc)
bus_of false bus b is = absurd cc

abbrev first_wire : PlanValue → (bus : ℕ) → ℕ
first_wire plan b = sum (take b (widths plan))

wired_row : (soc : SocValue) (limits : LimitsValue) (plan : PlanValue) → IsGood soc limits plan → HaveRow (wired (bus_wires plan) (placed_tests soc plan)) (first_wire plan)
wired_row soc limits plan good k f at =
    let o = from_flat_map (λ (t : PlacedTest). over_bus (bus_wires plan) t t.bus) (placed_tests soc plan) k f at in
    let t = o.1 in
    let over : IsOverBus (bus_wires plan) t f = from_bus (bus_wires plan) t o.2 t.bus f refl o.4 in
    let u = from_map placed_of (planned soc plan) o.0 t o.3 in
    let bus = bus_of (u.0).tam (u.0).bus over.bus (ap (λ (t : PlacedTest). t.bus) u.2 ∙ over.bus_is) in
    let wide : 1 ≤ slice_index (widths plan) over.bus = subst (λ b. 1 ≤ slice_index (widths plan) b) bus.1 (bus_wide soc limits plan good o.0 u.0 u.1 bus.0) in
    let wires = wires_at 0 (widths plan) over.bus over.wires over.wires_are in
    let covered = covers_start t (over.wires).0 (over.wires).1 (first_wire plan over.bus) (some_cycle soc plan o.0 t o.3) (omega (arith, wires.0)) (omega (arith, wires.0, wires.1, wide)) in
    let in_band : over.bus ≡ band (drawn_over t (over.wires).0 (over.wires).1) = sym (band_over t over.bus (over.wires).0 (over.wires).1 over.bus_is) in
    subst (λ (f : Drawn). covers f.rectangle.start (first_wire plan (band f)) f ≡ true) over.is (subst (λ b. covers t.start (first_wire plan b) (drawn_over t (over.wires).0 (over.wires).1) ≡ true) in_band covered)
  where
    band_over : (t : PlacedTest) (b first last : ℕ) → t.bus ≡ Some b → band (drawn_over t first last) ≡ b
    band_over t b first last bus = rw bus refl

pub wires_told_apart : (soc : SocValue) (limits : LimitsValue) (plan : PlanValue) → IsGood soc limits plan → AreToldApart (wired (bus_wires plan) (placed_tests soc plan))
wires_told_apart soc limits plan good =
    told_apart (wired (bus_wires plan) (placed_tests soc plan)) (start_alone (wired (bus_wires plan) (placed_tests soc plan)) (first_wire plan) (rectangles_apart soc limits plan good) (wired_row soc limits plan good))

-- ---- in lanes

no_bus : (o : Option ℕ) → is_none o ≡ true → o ≡ None
no_bus None is = refl
no_bus (Some b) is = absurd cc

self_test : (soc : SocValue) (plan : PlanValue) (i : ℕ) (t : PlacedTest) → slice_get (self_tests soc plan) i ≡ Some t → (t.bus ≡ None) × (t.start < t.end)
self_test soc plan i t at =
    let own = filter is_self (placed_tests soc plan) in
    let o = from_flat_map (λ (c : ℕ). filter (starts_at c) own) (range_with_len 0 (plan.cycles + 1)) i t at in
    let k = from_filter (starts_at o.1) own o.2 t o.4 in
    let n = from_filter is_self (placed_tests soc plan) k.0 t k.1 in
    (no_bus t.bus n.2, some_cycle soc plan n.0 t n.1)

lane_row : (t : PlacedTest) (lane : ℕ) → t.bus ≡ None → t.start < t.end → covers t.start (band (drawn_over t lane (lane + 1))) (drawn_over t lane (lane + 1)) ≡ true
lane_row t lane none some =
    let in_lane : lane ≡ band (drawn_over t lane (lane + 1)) = rw none refl in
    subst (λ n. covers t.start n (drawn_over t lane (lane + 1)) ≡ true) in_lane (covers_start t lane (lane + 1) lane some (omega arith) (omega arith))

laned_row : (soc : SocValue) (plan : PlanValue) → HaveRow (laned [] (self_tests soc plan)) (λ lane. lane)
laned_row soc plan k f at =
    let drawn = laned [] (self_tests soc plan) in
    let own : slice_get (self_tests soc plan) k ≡ Some f.test = subst (λ l. slice_get l k ≡ Some f.test) (laned_tests [] (self_tests soc plan)) (slice_get-map drawn_test drawn k ∙ ap (option_map drawn_test) at) in
    let self = self_test soc plan k f.test own in
    let lane : IsInLane f = in_lanes [] (self_tests soc plan) k f at in
    subst (λ (d : Drawn). covers d.rectangle.start (band d) d ≡ true) (sym lane.1) (lane_row f.test lane.0 self.0 self.1)

pub lanes_told_apart : (soc : SocValue) (limits : LimitsValue) (plan : PlanValue) → IsGood soc limits plan → AreToldApart (laned [] (self_tests soc plan))
lanes_told_apart soc limits plan good =
    told_apart (laned [] (self_tests soc plan)) (start_alone (laned [] (self_tests soc plan)) (λ lane. lane) (lanes_apart soc limits plan good) (laned_row soc plan))
