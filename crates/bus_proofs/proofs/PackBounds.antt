-- A leaf of prices that keeps its rule and holds: no good plan of fewer than the claimed cycles is in its case.
use Rattle.std.proofs.Common.{◌≡◌, ℕ, zero, suc, ◌+◌, ◌-◌, ◌*◌, ◌/◌, ◌≤◌, ◌<◌, Bool, true, false, Some, List, [], ◌∷◌, length, map, refl, sym, ap, ◌∙◌, subst, arith, inl, inr, mul-le-mul_left, mul_comm, mul-suc, take, ◌⊎◌, slice_get, slice_index, nat_eq, nat_lt, ◌&&◌, if◌then◌else◌, sum, sum_by}
use Rattle.std.proofs.lemmas.Bool.{cases_lt, cases_Bool, eqb-true, lt-ltb, le-ltb, and_parts, and_from}
use Rattle.std.proofs.lemmas.List.{length-map, take_all}
use Rattle.std.proofs.lemmas.List.Sums.{sum_by-cons}
use Rattle.std.proofs.lemmas.Nat.{le-div}
use Rattle.std.proofs.Math.Nat.{mul-add, mul-div-le}
use Rattle.soc_model.specs.Chips.{SocValue, LiveTest, live_tests}
use Rattle.plan_model.specs.Plans.{PlanValue, LimitsValue}
use Rattle.plan_model.specs.Rules.{IsGood}
use Rattle.soc_model.specs.SoundChips.{IsSoundChip}
use Rattle.plan_model.specs.Bounds.{sum_below, is_of}
use Rattle.plan_model.specs.Certificates.{has_tam_at}
use Rattle.plan_model.proofs.Sums.{sum_by-le_at}
use Rattle.plan_model.proofs.SumsOverCycles.{sum_below-same, sum_below-add, sum_below-le_by, le-indicator, sum_below-indices}
use Rattle.proof_facts.specs.Packed.{packed_time, packed_tam_time, self_test_time}
use Rattle.pack_leaves.proofs.Sums.{sum_next, sum_none}
use Rattle.plan_model.specs.Proofs.{ListValue, PricingValue, OfSum, OfPack}
use Rattle.leaf_bounds.specs.Cases.{Case, known_ranks}
use Rattle.leaf_bounds.specs.Lists.{room_of, AreKept}
use Rattle.leaf_bounds.specs.Leaves.{weighed}
use Rattle.leaf_bounds.specs.PackLeaves.{ArePricedOnce, Filling, IsFilling, PaysTooMuch, cells_of, cells_taken, filling_worth, has_slot, list_weights, may_be, net_worth, numbers_priced, price_at, price_sum, priced_place}
use Rattle.bus_proofs.proofs.ListBounds.{time_of}
use Rattle.bus_proofs.proofs.LeafBounds.{IsTimed, SomeWire, empty_none, load-le, module_uses-le, packed-le, planned_use, short-enough, slot_is, sums_none, uses-le, wired_module, Leafing}
use Rattle.bus_proofs.proofs.PlanSlots.{rest_fits, by_module, weighed-below, of_module, of_wires, on_module, on_wires}
use Rattle.leaf_bounds.proofs.WeighedSums.{weighed-le}
use Rattle.bus_proofs.proofs.Rankings.{LeavesHaveNone}
use Rattle.common_lemmas.proofs.Tests.{if_le}
use Rattle.leaf_bounds.proofs.Priced.{called_wired, item_wired, items-le}

-- ---- sums

-- all prices, one by one
pub prices_are : (pricing : PricingValue) → price_sum pricing ≡ sum_below (price_at pricing) (length pricing.prices)
prices_are pricing = by pricing.prices
  where
    all : (xs : List (ℕ × ℕ)) → sum_by (λ (p : ℕ × ℕ). p.1) xs ≡ sum (map (λ (p : ℕ × ℕ). p.1) xs)
    all [] = refl
    all (x ∷ xs) = omega (arith, all xs, sum_by-cons (λ (p : ℕ × ℕ). p.1) x xs, sum_by-cons (λ (n : ℕ). n) x.1 (map (λ (p : ℕ × ℕ). p.1) xs))

    by : (xs : List (ℕ × ℕ)) → sum_by (λ (p : ℕ × ℕ). p.1) xs ≡ sum_below (slice_index (map (λ (p : ℕ × ℕ). p.1) xs)) (length xs)
    by xs =
        let ns = map (λ (p : ℕ × ℕ). p.1) xs in
        let long = length-map xs (λ (p : ℕ × ℕ). p.1) in
        let whole : sum_below (slice_index (map (λ (p : ℕ × ℕ). p.1) xs)) (length xs) ≡ sum (take (length xs) (map (λ (p : ℕ × ℕ). p.1) xs)) = sum_below-indices (map (λ (p : ℕ × ℕ). p.1) xs) (length xs) (omega (arith, long)) in
        all xs ∙ ap sum (sym (take_all (length xs) (map (λ (p : ℕ × ℕ). p.1) xs) (omega (arith, long)))) ∙ sym whole

-- what is dealt out to buses is all there on some bus
dealt-le : (g : ℕ → ℕ → ℕ) (bus : ℕ → ℕ) (count buses : ℕ) → ((i : ℕ) → i < count → bus i < buses) →
    sum_below (λ i. g i (bus i)) count ≤ sum_below (λ k. sum_below (λ i. if nat_eq (bus i) k then g i k else 0) count) buses
dealt-le g bus zero buses within = omega (arith, sum_none (λ i. g i (bus i)))
dealt-le g bus (suc n) buses within =
    let rest = dealt-le g bus n buses (λ i less. within i (omega (arith, less))) in
    let both = sum_below-add (λ k. sum_below (λ i. if nat_eq (bus i) k then g i k else 0) n) (λ k. if nat_eq (bus n) k then g n k else 0) buses in
    let same =
    sum_below-same (λ k. sum_below (λ i. if nat_eq (bus i) k then g i k else 0) (suc n)) (λ k. sum_below (λ i. if nat_eq (bus i) k then g i k else 0) n + (if nat_eq (bus n) k then g n k else 0)) buses (λ k less. sum_next (λ i. if nat_eq (bus i) k then g i k else 0) n) in
    omega (arith, rest, le-indicator (g n) (bus n) buses (within n (omega arith)), both, same, sum_next (λ i. g i (bus i)) n)

-- whole cells are together no more than the cells of all time
floors-le : (t : ℕ → ℕ) (grain n : ℕ) → grain * sum_below (λ i. t i / grain) n ≤ sum_below t n
floors-le t grain zero = (rw (sum_none (λ i. t i / grain)) (omega arith))
floors-le t grain (suc n) =
    let split = mul-add grain (sum_below (λ i. t i / grain) n) (t n / grain) in
    omega (arith, ap (λ x. grain * x) (sum_next (λ i. t i / grain) n), split, floors-le t grain n, mul-div-le (t n) grain, sum_next t n)

cells-le : (grain cells total : ℕ) → 1 ≤ grain → grain * cells ≤ total → cells ≤ total / grain
cells-le grain cells total some fits = le-div cells total grain some (omega (arith, fits, mul_comm grain cells))

-- ---- a plan as what is on its buses

module _ (soc : SocValue) where
  -- all that is at hand
  record Packing (limits : LimitsValue) (lists : List ListValue) (plan : PlanValue) (claim : ℕ) (c : Case) (pricing : PricingValue) (f rank : ℕ → ℕ) (top : ℕ) : Type 0 where
    leafing : Leafing soc limits lists plan claim c (list_weights pricing) f rank top
    once : ArePricedOnce soc pricing.prices
    some : 1 ≤ pricing.grain

  abbrev bus_of : PricingValue → (rank : ℕ → ℕ) → ℕ → ℕ
  bus_of pricing rank item = rank (priced_place soc pricing item)

  abbrev planned : Case → PricingValue → (f rank : ℕ → ℕ) (top : ℕ) → Filling
  planned c pricing f rank top = record { buses = top + known_ranks c; widths = f; taken = λ k item. nat_eq (bus_of pricing rank item) k }

  -- what the tests of a module over the wires use of the lists in the plan
  abbrev uses_at : LimitsValue → List ListValue → PlanValue → Case → PricingValue → (rank : ℕ → ℕ) → ℕ → ℕ
  uses_at limits lists plan c pricing rank p =
      weighed lists (list_weights pricing) (λ list. of_module soc p (planned_use soc limits plan c rank list))

  item_tam : (pricing : PricingValue) (i : ℕ) → ArePricedOnce soc pricing.prices → i < length pricing.prices → has_tam_at soc (priced_place soc pricing i) ≡ true
  item_tam pricing i once within = called_wired soc (slice_index (numbers_priced pricing.prices) i) (item_wired pricing i once within)

module _ {soc : SocValue} {limits : LimitsValue} {lists : List ListValue} {plan : PlanValue} {claim : ℕ} {c : Case} {pricing : PricingValue} {f rank : ℕ → ℕ} {top : ℕ}
    (h : Packing soc limits lists plan claim c pricing f rank top) where
  -- the places and buses of priced modules, what their tests take and use there, and the plan as a filling
  abbrev place : (i : ℕ) → ℕ
  place i = priced_place soc pricing i

  abbrev bus : (i : ℕ) → ℕ
  bus i = bus_of soc pricing rank i

  abbrev count : ℕ
  count = length pricing.prices

  abbrev modules : ℕ
  modules = length soc.modules

  abbrev on_bus : (k : ℕ) → LiveTest → ℕ
  on_bus k l = if nat_eq (rank l.place) k then time_of plan l else 0

  abbrev time_on : (k p : ℕ) → ℕ
  time_on k p = if nat_eq (rank p) k then packed_tam_time soc p (f k) else 0

  abbrev worth : (i : ℕ) → ℕ
  worth i = net_worth soc limits lists c pricing i (bus i) (f (bus i))

  abbrev uses : (p : ℕ) → ℕ
  uses p = uses_at soc limits lists plan c pricing rank p

  abbrev filling : Filling
  filling = planned soc c pricing f rank top

  -- the modules on a bus take no longer than the plan, so that they fit in its cells
  load_fits : (k : ℕ) → sum_below (λ i. if nat_eq (bus i) k then cells_taken soc pricing (place i) (f k) else 0) count ≤ cells_of claim pricing
  load_fits k =
      let cells =
      sum_below-le_by (λ i. if nat_eq (bus i) k then cells_taken soc pricing (place i) (f k) else 0) (λ i. time_on k (place i) / pricing.grain) count
      (λ i less. inside (nat_eq (bus i) k) (packed_tam_time soc (place i) (f k))) in
      let whole = floors-le (λ i. time_on k (place i)) pricing.grain count in
      let places = items-le pricing (time_on k) h.once in
      let tests : sum_below (time_on k) modules ≤ sum_below (λ p. of_module soc p (on_bus k)) modules =
      sum_below-le_by (time_on k) (λ p. of_module soc p (on_bus k)) modules (λ p less. on_its_bus p (cases_Bool (nat_eq (rank p) k))) in
      let all : sum_below (λ p. of_module soc p (on_bus k)) modules ≤ of_wires soc (on_bus k) = by_module (on_bus k) (live_tests soc) modules in
      let joined : of_wires soc (on_bus k) ≤ sum_by (λ l. if l.test.tam && nat_eq (rank l.place) k then time_of plan l else 0) (live_tests soc) =
      sum_by-le_at (on_wires (on_bus k)) (λ l. if l.test.tam && nat_eq (rank l.place) k then time_of plan l else 0) (live_tests soc) (λ i l at. nested l.test.tam (nat_eq (rank l.place) k) (time_of plan l)) in
      let load = load-le soc limits h.leafing.good h.leafing.ranked k in
      let short = h.leafing.short in
      let fits =
      cells-le pricing.grain (sum_below (λ i. time_on k (place i) / pricing.grain) count) (claim - 1) h.some (omega (arith, whole, places, tests, all, joined, load, short)) in
      omega (arith, cells, fits)
    where
      inside : (b : Bool) (t : ℕ) → (if b then t / pricing.grain else 0) ≤ (if b then t else 0) / pricing.grain
      inside true t = omega arith
      inside false t = omega arith

      nested : (a b : Bool) (t : ℕ) → (if a then (if b then t else 0) else 0) ≤ (if a && b then t else 0)
      nested true b t = omega arith
      nested false b t = omega arith

      on_its_bus : (p : ℕ) → (nat_eq (rank p) k ≡ true) ⊎ (nat_eq (rank p) k ≡ false) → time_on k p ≤ of_module soc p (on_bus k)
      on_its_bus p (inr off) = rw off (omega arith)
      on_its_bus p (inl here) = rw here (sum_by-le_at (λ l. if l.test.tam && is_of p l then packed_time l.core l.test (f k) else 0) (on_module p (on_bus k)) (live_tests soc)
          (λ i l at. if_le (l.test.tam && is_of p l) (packed_time l.core l.test (f k)) (on_bus k l) (λ both. one i l at both)))
        where
          one : (i : ℕ) (l : LiveTest) → slice_get (live_tests soc) i ≡ Some l → l.test.tam && is_of p l ≡ true → packed_time l.core l.test (f k) ≤ (on_bus k l)
          one i l at both =
              let is = ap (λ q. nat_eq (rank q) k) (eqb-true l.place p (and_parts l.test.tam (is_of p l) both).1) ∙ here in
              let packed' = subst (λ q. packed_time l.core l.test (f q) ≤ time_of plan l) (eqb-true (rank p) k here) (packed-le h.leafing p i at both) in
              rw is packed'

  -- each has a slot where it is
  slot_there_is : (i : ℕ) → i < count → has_slot soc claim c (place i) (bus i) (f (bus i)) ≡ true
  slot_there_is i within =
      let tam = item_tam soc pricing i h.once within in
      let m = wired_module soc (place i) tam in
      let may = may_there tam (cases_lt (rank (place i)) (known_ranks c)) in
      let some = lt-ltb 0 (f (rank (place i))) (omega (arith, h.leafing.some (place i) m.0 m.1 m.2)) in
      let short = lt-ltb (packed_tam_time soc (place i) (f (rank (place i))) + self_test_time soc (place i)) claim (short-enough h.leafing (place i)) in
      and_from (may_be c (place i) (rank (place i))) _ may (and_from (nat_lt 0 (f (rank (place i)))) _ some short)
    where
      may_there : has_tam_at soc (place i) ≡ true → (rank (place i) < known_ranks c) ⊎ (known_ranks c ≤ rank (place i)) → may_be c (place i) (rank (place i)) ≡ true
      may_there tam (inl known) = rw (lt-ltb (rank (place i)) (known_ranks c) known) (h.leafing.is_in.may (place i) tam known)
      may_there tam (inr rest) = rw (le-ltb (rank (place i)) (known_ranks c) rest) (h.leafing.is_in.rest (place i) tam rest)

  -- the plan is a filling
  planned_is : IsFilling soc limits.wires claim c pricing filling
  planned_is = record {
    known = omega arith;
    low = h.leafing.is_in.low;
    high = h.leafing.is_in.high;
    rest = λ r from less. rest_fits c r h.leafing.ranked.falls h.leafing.ranked.fits h.leafing.is_in.low h.leafing.is_in.high from;
    fits = h.leafing.ranked.fits (top + known_ranks c);
    loads = λ k less. record {
      allowed = λ i within at.
          subst (λ q. has_slot soc claim c (place i) q (f q) ≡ true) (eqb-true (bus i) k at) (slot_there_is i within);
      fits = load_fits k;
    };
  }

  -- what prices leave beyond uses is on the buses
  prices-le : price_sum pricing ≤ filling_worth soc limits lists c pricing filling + sum_below uses modules
  prices-le =
      let each : sum_below (price_at pricing) count ≤ sum_below (λ i. worth i + uses (place i)) count =
      sum_below-le_by (price_at pricing) (λ i. worth i + uses (place i)) count
      (λ i less. omega (arith, module_uses-le h.leafing (place i))) in
      let split = sum_below-add (λ i. worth i) (λ i. uses (place i)) count in
      let dealt : sum_below (λ i. worth i) count ≤ filling_worth soc limits lists c pricing filling =
      dealt-le (λ i k. net_worth soc limits lists c pricing i k (f k)) bus count (top + known_ranks c)
      (λ i within. let m = wired_module soc (place i) (item_tam soc pricing i h.once within) in omega (arith, h.leafing.ranked.below (place i) m.0 m.1 m.2)) in
      omega (arith, prices_are pricing, each, split, items-le pricing uses h.once, dealt)

module _ (soc : SocValue) (limits : LimitsValue) (lists : List ListValue) where
  -- the uses of all modules
  uses_sum-le : (plan : PlanValue) (c : Case) (pricing : PricingValue) (rank : ℕ → ℕ) →
      sum_below (uses_at soc limits lists plan c pricing rank) (length soc.modules) ≤ weighed lists (list_weights pricing) (λ list. of_wires soc (planned_use soc limits plan c rank list))
  uses_sum-le plan c pricing rank =
      let turned = weighed-below lists (list_weights pricing) (λ p list. of_module soc p (planned_use soc limits plan c rank list)) (length soc.modules) in
      let joined = weighed-le lists (list_weights pricing) (λ list. sum_below (λ p. of_module soc p (planned_use soc limits plan c rank list)) (length soc.modules)) (λ list. of_wires soc (planned_use soc limits plan c rank list))
      (λ k list there. by_module (planned_use soc limits plan c rank list) (live_tests soc) (length soc.modules)) in
      omega (arith, turned, joined)

  -- so that buses and lists are worth all prices
  pub prices_fit : {plan : PlanValue} {claim : ℕ} {c : Case} {pricing : PricingValue} {f rank : ℕ → ℕ} {top : ℕ} →
      Leafing soc limits lists plan claim c (list_weights pricing) f rank top → ArePricedOnce soc pricing.prices → 1 ≤ pricing.grain →
      PaysTooMuch soc limits lists claim c pricing → ⊥
  prices_fit {plan} {claim} {c} {pricing} {f} {rank} {top} leafing once some pays =
      let h : Packing soc limits lists plan claim c pricing f rank top = record { leafing = leafing; once = once; some = some } in
      let worth = pays.greatest.most (planned soc c pricing f rank top) (planned_is h) in
      let prices = prices-le h in
      let uses = uses_sum-le plan c pricing rank in
      let next : weighed lists (list_weights pricing) room_of * suc plan.cycles ≤ weighed lists (list_weights pricing) room_of * claim = mul-le-mul_left (weighed lists (list_weights pricing) room_of) (omega (arith, leafing.short)) in
      let one = mul-suc (weighed lists (list_weights pricing) room_of) plan.cycles in
      omega (arith, worth, prices, uses, uses-le leafing, next, one, mul_comm (weighed lists (list_weights pricing) room_of) plan.cycles, pays.more)

  -- ---- leaves of both kinds

  pub leaves_none : (claim : ℕ) {plan : PlanValue} → IsSoundChip soc → IsGood soc limits plan → IsTimed soc limits plan → SomeWire soc plan → AreKept soc limits lists →
      plan.cycles < claim → LeavesHaveNone soc limits lists claim plan
  leaves_none claim sound good timed some kept short done c (OfSum weights) rule holds f rank top ranked is = sums_none claim sound good timed some kept short rule holds f rank top ranked is
  leaves_none claim {plan} sound good timed some kept short done c (OfPack pricing) rule holds f rank top ranked is = elim holds [
    | inl empty ↦ empty_none ranked is empty
    | inr other ↦ elim other [
      | inl none ↦
          let at = slot_is leafing none.place none.tam in
          let nowhere = rw none.none at at.1 in
          absurd cc
      | inr pays ↦ prices_fit leafing rule.modules rule.some pays
    ]
  ]
    where
      leafing : Leafing soc limits lists plan claim c (list_weights pricing) f rank top
      leafing = record {
        sound = sound;
        good = good;
        timed = timed;
        short = short;
        kept = kept;
        few = omega arith;
        some = λ p m at tam. omega (arith, some p m at tam, ranked.own p m at tam);
        ranked = ranked;
        is_in = is;
      }
