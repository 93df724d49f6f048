-- A leaf that keeps its rule and holds: no good plan of fewer than the claimed cycles is in its case.
use Rattle.std.proofs.Common.{◌≡◌, ℕ, suc, ◌+◌, ◌*◌, ◌≤◌, ◌<◌, Bool, true, false, Option, Some, None, List, [], ◌∷◌, length, refl, ap, ◌∙◌, sym, subst, arith, inl, inr, mul-le-mul_left, mul-le-mul_right, add-mul, mul_comm, mul-suc, slice_get, nat_eq, nat_lt, ◌&&◌, ◌||◌, not, if◌then◌else◌, sum, sum_by}
use Rattle.std.proofs.lemmas.Bool.{cases_Bool, eqb-true, lt-ltb, and_parts, and_from}
use Rattle.std.proofs.lemmas.List.Sums.{sum_by-cons}
use Rattle.soc_model.specs.Chips.{ModuleValue, SocValue, LiveTest, is_live, live_tests}
use Rattle.soc_model.specs.Modes.{is_tam, has_tam}
use Rattle.soc_model.specs.SoundChips.{IsSoundChip}
use Rattle.plan_model.specs.Plans.{PlanValue, LimitsValue}
use Rattle.plan_model.specs.Rules.{IsGood, Busy}
use Rattle.plan_model.specs.Bounds.{sum_below, is_of}
use Rattle.plan_model.specs.Certificates.{passes, has_tam_at}
use Rattle.plan_model.proofs.GoodPlansRunRight.{planned_place}
use Rattle.plan_model.proofs.Lists.{from_filter, any_from}
use Rattle.plan_model.proofs.PlannedTests.{live_at}
use Rattle.plan_model.proofs.PowerAndAreaBounds.{bus_width}
use Rattle.plan_model.proofs.Sums.{sum_by-le_at, sum_by-times}
use Rattle.plan_model.proofs.SumsOverCycles.{sum_below-add, sum_below-le_by}
use Rattle.plan_model.proofs.TurnBounds.{plan_of}
use Rattle.proof_facts.specs.Packed.{packed_time, packed_tam_time, self_test_time}
use Rattle.plan_model.specs.Proofs.{ListValue, OfTurns, OfTurnsOn, OfCrowd, OfPower, WeightsValue}
use Rattle.leaf_bounds.specs.Cases.{Case, known_ranks, spare, IsEmpty}
use Rattle.leaf_bounds.specs.Lists.{KeepsList, room_of, use_of, is_among, excludes_all, AreKept}
use Rattle.leaf_bounds.specs.Leaves.{IsSum, LeafHolds, Slot, slot, is_short, all_slots, slots_of, is_rank, module_use, self_use, weighed, cost, least_cost, cost_of_all, worth_of_cycle}
use Rattle.bus_proofs.proofs.Intervals.{lows-le, IsIn}
use Rattle.bus_proofs.proofs.Rankings.{NoPlan, IsRanked}
use Rattle.bus_proofs.proofs.ListBounds.{planned_at, time_of, NeverMeet, OneBus, never_bound, bus_never, turns_fit, turns_on_fit, LeastDraws, crowd_fits, powers_fit}
use Rattle.leaf_bounds.proofs.WeighedSums.{weighed-le, weighed-add, use_of-mono, smallest-le}
use Rattle.bus_proofs.proofs.PlanSlots.{weighed-times, weighed-below, by_module, by_rank, rate_of, rates-le, known_rank, slot_there, of_module, of_wires, on_module, on_wires}
use Rattle.common_lemmas.proofs.Tests.{if_le}
use Rattle.common_lemmas.proofs.Lists.{in_filter}

-- ---- what is known of a plan

-- its tests take at least their packed times, tests that exclude each other never meet, and least powers are drawn
pub record IsTimed (soc : SocValue) (limits : LimitsValue) (plan : PlanValue) : Type 0 where
  pub packed : (i : ℕ) (l : LiveTest) → slice_get (live_tests soc) i ≡ Some l → l.test.tam ≡ true → packed_time l.core l.test (bus_width plan l.core) ≤ time_of plan l
  pub own : (i : ℕ) (l : LiveTest) → slice_get (live_tests soc) i ≡ Some l → l.test.tam ≡ false → l.test.patterns ≤ time_of plan l
  pub never : NeverMeet soc limits plan
  pub draws : LeastDraws soc limits

-- ---- the module of a live test

module _ (soc : SocValue) (i : ℕ) {l : LiveTest} (at : slice_get (live_tests soc) i ≡ Some l) where
  live_module : slice_get soc.modules l.place ≡ Some l.core
  live_module =
      let o = live_at soc.modules 0 i l at in
      let same : o.up ≡ l.place = omega (arith, o.place_is) in
      rw same at o.module_at

  live_tam : l.test.tam ≡ true → has_tam l.core ≡ true
  live_tam tam =
      let o = live_at soc.modules 0 i l at in
      let t = from_filter is_live l.core.tests o.n l.test o.test_at in
      any_from is_tam l.core.tests t.0 l.test t.1 (and_from (is_live l.test) l.test.tam t.2 tam)

pub wired_module : (soc : SocValue) (p : ℕ) → has_tam_at soc p ≡ true → (m : ModuleValue) × (slice_get soc.modules p ≡ Some m) × (has_tam m ≡ true)
wired_module soc p = go (slice_get soc.modules p) refl
  where
    go : (o : Option ModuleValue) → slice_get soc.modules p ≡ o → passes has_tam o ≡ true → (m : ModuleValue) × (slice_get soc.modules p ≡ Some m) × (has_tam m ≡ true)
    go None e h = absurd cc
    go (Some m) e h = (m, e, h)

-- ---- sums of two

sums-le : {X : Type 0} (f g h : X → ℕ) (xs : List X) → ((i : ℕ) (x : X) → slice_get xs i ≡ Some x → f x + g x ≤ h x) → sum_by f xs + sum_by g xs ≤ sum_by h xs
sums-le f g h [] each = omega arith
sums-le f g h (x ∷ xs) each = omega (arith, each 0 x refl, sums-le f g h xs (λ i y at. each (suc i) y at), sum_by-cons f x xs, sum_by-cons g x xs, sum_by-cons h x xs)

-- ---- tests on their ranks

-- whether a test is on the bus of a rank, where its module is on the bus of this one
abbrev on_of : (known : ℕ) (rank : ℕ → ℕ) → LiveTest → ℕ → Bool
on_of known rank l = is_rank (known_rank known (rank l.place))

known_is : (known r k : ℕ) → is_rank (known_rank known r) k ≡ true → r ≡ k
known_is known r k = go (nat_lt r known)
  where
    go : (b : Bool) → is_rank (if b then Some r else None) k ≡ true → r ≡ k
    go true h = eqb-true r k h
    go false h = absurd cc

one_bus : {soc : SocValue} {plan : PlanValue} {w : ℕ} {f rank : ℕ → ℕ} {top : ℕ} (known : ℕ) → IsRanked soc plan w f rank top → OneBus soc plan (on_of known rank)
one_bus {soc} {rank} known is i j k a b at at' tam tam' on' on'' =
    is.one_bus a.place b.place a.core b.core (live_module soc i at) (live_module soc j at') (live_tam soc i at tam) (live_tam soc j at' tam') (known_is known (rank a.place) k on' ∙ sym (known_is known (rank b.place) k on''))

module _ (soc : SocValue) (limits : LimitsValue) where
  -- a bus takes no longer than the plan
  pub load-le : {plan : PlanValue} {f rank : ℕ → ℕ} {top : ℕ} → IsGood soc limits plan → IsRanked soc plan limits.wires f rank top → (k : ℕ) →
      sum_by (λ l. if l.test.tam && nat_eq (rank l.place) k then time_of plan l else 0) (live_tests soc) ≤ plan.cycles
  load-le {plan} {rank} good is k = never_bound soc limits plan good (λ l. l.test.tam && nat_eq (rank l.place) k) (λ i j c a b order at at' p q active active'.
      let x = and_parts a.test.tam (nat_eq (rank a.place) k) p in
      let y = and_parts b.test.tam (nat_eq (rank b.place) k) q in
      bus_never soc limits plan good i j c order at at' x.0 y.0 (is.one_bus a.place b.place a.core b.core (live_module soc i at) (live_module soc j at') (live_tam soc i at x.0) (live_tam soc j at' y.0) (eqb-true (rank a.place) k x.1 ∙ sym (eqb-true (rank b.place) k y.1))) active active')

  -- nor does a module
  module-le : (plan : PlanValue) → IsGood soc limits plan → (p : ℕ) → sum_by (λ l. if is_of p l then time_of plan l else 0) (live_tests soc) ≤ plan.cycles
  module-le plan good p = never_bound soc limits plan good (is_of p) (λ i j c a b order at at' x y active active'.
      good Busy i j c (plan_of plan a) (plan_of plan b) (record {
        first = planned_at soc plan i at;
        second = planned_at soc plan j at';
        order = order;
        related = planned_place plan a.place a.core a.test ∙ eqb-true a.place p x ∙ sym (eqb-true b.place p y) ∙ sym (planned_place plan b.place b.core b.test);
        meet = (active, active');
      }))

  -- ---- uses of a list

  -- what all tests use of a list is at most what there is of it in all cycles
  list_fits : {plan : PlanValue} → IsSoundChip soc → IsGood soc limits plan → IsTimed soc limits plan → (on' : LiveTest → ℕ → Bool) → OneBus soc plan on' →
      (list : ListValue) → KeepsList soc limits list → sum_by (λ l. use_of soc limits (on' l) list (time_of plan l) l) (live_tests soc) ≤ plan.cycles * room_of list
  list_fits {plan} sound good timed on' one (OfTurns tests) keeps = omega (arith, turns_fit soc limits plan sound good timed.never tests keeps)
  list_fits {plan} sound good timed on' one (OfTurnsOn rank tests) keeps = omega (arith, turns_on_fit soc limits plan sound good timed.never on' one rank tests keeps)
  list_fits {plan} sound good timed on' one (OfCrowd most tests) keeps = crowd_fits limits plan sound good timed.draws most tests keeps
  list_fits {plan} sound good timed on' one (OfPower near) keeps = omega (arith, powers_fit soc limits plan good near keeps)

  -- a use that no bus adds to
  use_off : (on' : ℕ → Bool) (list : ListValue) (m n : ℕ) (l : LiveTest) → m ≤ n → use_of soc limits (λ rank. false) list m l ≤ use_of soc limits on' list n l
  use_off on' (OfTurns tests) m n l h = use_of-mono soc limits on' (OfTurns tests) m n l h
  use_off on' (OfTurnsOn rank tests) m n l h = go (is_among tests l) l.test.tam (on' rank) (excludes_all soc limits tests l)
    where
      go : (a tam o e : Bool) → (if a || (tam && (false && e)) then m else 0) ≤ (if a || (tam && (o && e)) then n else 0)
      go true tam o e = h
      go false true o e = omega arith
      go false false o e = omega arith
  use_off on' (OfCrowd most tests) m n l h = use_of-mono soc limits on' (OfCrowd most tests) m n l h
  use_off on' (OfPower near) m n l h = use_of-mono soc limits on' (OfPower near) m n l h

  -- ---- one leaf

  -- all that is at hand
  pub record Leafing (lists : List ListValue) (plan : PlanValue) (claim : ℕ) (c : Case) (weights : WeightsValue) (f rank : ℕ → ℕ) (top : ℕ) : Type 0 where
    pub sound : IsSoundChip soc
    pub good : IsGood soc limits plan
    pub timed : IsTimed soc limits plan
    pub short : plan.cycles < claim
    pub kept : AreKept soc limits lists
    pub few : length weights.ranks ≤ known_ranks c
    pub some : (p : ℕ) (m : ModuleValue) → slice_get soc.modules p ≡ Some m → has_tam m ≡ true → 1 ≤ f (rank p)
    pub ranked : IsRanked soc plan limits.wires f rank top
    pub is_in : IsIn f rank (has_tam_at soc) c

-- the slot of a module
abbrev pub own_slot : (c : Case) (weights : WeightsValue) (f rank : ℕ → ℕ) → ℕ → Slot
own_slot c weights f rank p = slot (known_rank (known_ranks c) (rank p)) (f (rank p)) (rate_of f c weights (rank p))

-- what a test uses of a list in the plan
abbrev pub planned_use : SocValue → LimitsValue → PlanValue → (c : Case) (rank : ℕ → ℕ) → ListValue → LiveTest → ℕ
planned_use soc limits plan c rank list l = use_of soc limits (on_of (known_ranks c) rank l) list (time_of plan l) l

module _ {soc : SocValue} {limits : LimitsValue} {lists : List ListValue} {plan : PlanValue} {claim : ℕ} {c : Case} {weights : WeightsValue} {f rank : ℕ → ℕ} {top : ℕ}
    (h : Leafing soc limits lists plan claim c weights f rank top) where
  -- what a test over the wires takes on the bus of a module, what it uses of a list there and in the plan, and what it is dear
  abbrev packed : (p : ℕ) → LiveTest → ℕ
  packed p l = packed_time l.core l.test (f (rank p))

  abbrev use_on : (p : ℕ) → ListValue → (time : ℕ) → LiveTest → ℕ
  use_on p list time l = use_of soc limits (is_rank (known_rank (known_ranks c) (rank p))) list time l

  abbrev used : ListValue → LiveTest → ℕ
  used list l = planned_use soc limits plan c rank list l

  abbrev rate : (p : ℕ) → ℕ
  rate p = rate_of f c weights (rank p)

  abbrev dear : LiveTest → ℕ
  dear l = rate l.place * time_of plan l

  -- a test over the wires takes at least its packed time on the width of its rank
  pub packed-le : (p i : ℕ) {l : LiveTest} → slice_get (live_tests soc) i ≡ Some l → l.test.tam && is_of p l ≡ true → packed p l ≤ time_of plan l
  packed-le p i {l} at both =
      let x = and_parts l.test.tam (is_of p l) both in
      let width = ap (λ q. f (rank q)) (sym (eqb-true l.place p x.1)) ∙ h.ranked.own l.place l.core (live_module soc i at) (live_tam soc i at x.0) in
      rw width (h.timed.packed i l at x.0)

  pub short-enough : (p : ℕ) → packed_tam_time soc p (f (rank p)) + self_test_time soc p < claim
  short-enough p =
      let both : packed_tam_time soc p (f (rank p)) + self_test_time soc p ≤ sum_by (λ l. if is_of p l then time_of plan l else 0) (live_tests soc) =
      sums-le (on_module p (packed p)) (λ l. if not l.test.tam && is_of p l then l.test.patterns else 0) (λ l. if is_of p l then time_of plan l else 0) (live_tests soc)
      (λ i l at. each l.test.tam (is_of p l) (packed p l) l.test.patterns (time_of plan l) (packed-le p i at) (h.timed.own i l at)) in
      omega (arith, both, module-le soc limits plan h.good p, h.short)
    where
      each : (tam here : Bool) (x y t : ℕ) → (tam && here ≡ true → x ≤ t) → (tam ≡ false → y ≤ t) → (if tam && here then x else 0) + (if not tam && here then y else 0) ≤ (if here then t else 0)
      each true true x y t a b = omega (arith, a refl)
      each true false x y t a b = omega arith
      each false true x y t a b = omega (arith, b refl)
      each false false x y t a b = omega arith

  -- the slot is one that the leaf looks at
  pub slot_is : (p : ℕ) → has_tam_at soc p ≡ true →
      (n : ℕ) × (slice_get (slots_of soc limits.wires claim c weights p) n ≡ Some (own_slot c weights f rank p))
  slot_is p tam =
      let m = wired_module soc p tam in
      let at = slot_there c weights p (rank p) h.ranked.falls h.ranked.fits h.is_in.low h.is_in.high h.few (h.some p m.0 m.1 m.2) (h.is_in.may p tam) (h.is_in.rest p tam) in
      in_filter (is_short soc claim p) (all_slots limits.wires c weights p) at.0 (own_slot c weights f rank p) at.1 (lt-ltb (packed_tam_time soc p (f (rank p)) + self_test_time soc p) claim (short-enough p))

  -- what a module uses of the lists is at most what its tests use of them in the plan
  pub module_uses-le : (p : ℕ) →
      weighed lists weights (module_use soc limits p (own_slot c weights f rank p)) ≤ weighed lists weights (λ list. of_module soc p (used list))
  module_uses-le p =
      weighed-le lists weights (module_use soc limits p (own_slot c weights f rank p)) (λ list. of_module soc p (used list))
      (λ n list there. sum_by-le_at (on_module p (λ l. use_on p list (packed p l) l)) (on_module p (used list)) (live_tests soc)
      (λ i l at. if_le (l.test.tam && is_of p l) (use_on p list (packed p l) l) (used list l) (λ both. no_more list i l at both)))
    where
      same_place : (l : LiveTest) → l.test.tam && is_of p l ≡ true → p ≡ l.place
      same_place l both = sym (eqb-true l.place p (and_parts l.test.tam (is_of p l) both).1)

      no_more : (list : ListValue) (i : ℕ) (l : LiveTest) → slice_get (live_tests soc) i ≡ Some l → l.test.tam && is_of p l ≡ true → use_on p list (packed p l) l ≤ used list l
      no_more list i l at both =
          let less = use_of-mono soc limits (is_rank (known_rank (known_ranks c) (rank p))) list (packed p l) (time_of plan l) l (packed-le p i at both) in
          subst (λ q. use_on p list (packed p l) l ≤ use_on q list (time_of plan l) l) (same_place l both) less

  -- what a module costs is at most what its tests take in the plan
  cost-le : (p : ℕ) →
      cost soc limits lists weights p (own_slot c weights f rank p) ≤ of_module soc p dear + weighed lists weights (λ list. of_module soc p (used list))
  cost-le p =
      let product : rate p * packed_tam_time soc p (f (rank p)) ≡ of_module soc p (λ l. rate p * packed p l) =
      sum_by-times (λ (l : LiveTest). l.test.tam && is_of p l) (λ l. packed p l) (rate p) (live_tests soc) in
      let rates : of_module soc p (λ l. rate p * packed p l) ≤ of_module soc p dear =
      sum_by-le_at (on_module p (λ l. rate p * packed p l)) (on_module p dear) (live_tests soc)
      (λ i l at. if_le (l.test.tam && is_of p l) (rate p * packed p l) (dear l) (λ both. rated i l at both)) in
      omega (arith, product, rates, module_uses-le p)
    where
      same_place : (l : LiveTest) → l.test.tam && is_of p l ≡ true → p ≡ l.place
      same_place l both = sym (eqb-true l.place p (and_parts l.test.tam (is_of p l) both).1)

      rated : (i : ℕ) (l : LiveTest) → slice_get (live_tests soc) i ≡ Some l → l.test.tam && is_of p l ≡ true → rate p * packed p l ≤ dear l
      rated i l at both =
          let less = mul-le-mul_left (rate p) (packed-le p i at both) in
          subst (λ q. rate p * packed p l ≤ rate q * time_of plan l) (same_place l both) less

  least-le : (p : ℕ) →
      least_cost soc limits lists claim c weights p ≤ of_module soc p dear + weighed lists weights (λ list. of_module soc p (used list))
  least-le p = elim (cases_Bool (has_tam_at soc p)) [
    | inr no' ↦ rw no' (omega arith)
    | inl yes' ↦
        let at = slot_is p yes' in
        let less = smallest-le (cost soc limits lists weights p) (slots_of soc limits.wires claim c weights p) at.0 at.1 in
        rw yes' (omega (arith, less, cost-le p))
  ]

  -- ---- the sums of a leaf

  all_costs-le : sum_below (least_cost soc limits lists claim c weights) (length soc.modules) ≤ of_wires soc dear + weighed lists weights (λ list. of_wires soc (used list))
  all_costs-le =
      let each = sum_below-le_by (least_cost soc limits lists claim c weights) (λ p. of_module soc p dear
      + weighed lists weights (λ list. of_module soc p (used list))) (length soc.modules) (λ p less. least-le p) in
      let split = sum_below-add (λ p. of_module soc p dear)
      (λ p. weighed lists weights (λ list. of_module soc p (used list))) (length soc.modules) in
      let rates = by_module dear (live_tests soc) (length soc.modules) in
      let turned = weighed-below lists weights (λ p list. of_module soc p (used list)) (length soc.modules) in
      let uses = weighed-le lists weights (λ list. sum_below (λ p. of_module soc p (used list)) (length soc.modules)) (λ list. of_wires soc (used list))
      (λ k list there. by_module (used list) (live_tests soc) (length soc.modules)) in
      omega (arith, each, split, rates, turned, uses)

  -- what all tests use of the lists, those over the wires and the self tests
  pub uses-le : weighed lists weights (λ list. of_wires soc (used list)) + weighed lists weights (self_use soc limits) ≤ plan.cycles * weighed lists weights room_of
  uses-le =
      let both = weighed-add lists weights (λ list. of_wires soc (used list)) (self_use soc limits) in
      let fits = weighed-le lists weights (λ list. of_wires soc (used list) + self_use soc limits list) (λ list. plan.cycles * room_of list) one_list in
      omega (arith, both, fits, weighed-times lists weights plan.cycles room_of)
    where
      each : (tam : Bool) (x y u : ℕ) → x ≤ u → (tam ≡ false → y ≤ u) → (if tam then x else 0) + (if not tam then y else 0) ≤ u
      each true x y u a b = omega arith
      each false x y u a b = omega (arith, b refl)

      one_list : (n : ℕ) (list : ListValue) → slice_get lists n ≡ Some list → of_wires soc (used list) + self_use soc limits list ≤ plan.cycles * room_of list
      one_list n list there =
          let parts : of_wires soc (used list) + self_use soc limits list ≤ sum_by (used list) (live_tests soc) =
          sums-le (on_wires (used list)) (λ l. if not l.test.tam then use_of soc limits (λ rank. false) list l.test.patterns l else 0) (used list) (live_tests soc)
          (λ i l at. each l.test.tam (used list l) (use_of soc limits (λ rank. false) list l.test.patterns l) (used list l) (omega arith) (λ self. use_off soc limits (on_of (known_ranks c) rank l) list l.test.patterns (time_of plan l) l (h.timed.own i l at self))) in
          let fits = list_fits soc limits h.sound h.good h.timed (on_of (known_ranks c) rank) (one_bus (known_ranks c) h.ranked) list (h.kept n list there) in
          omega arith

  rates_fit : of_wires soc dear ≤ (sum weights.ranks + weights.wire * spare limits.wires c.intervals) * plan.cycles
  rates_fit =
      let loads : of_wires soc dear ≤ sum_below (rate_of f c weights) (top + length c.intervals) * plan.cycles =
      by_rank (rate_of f c weights) (λ l. rank l.place) (time_of plan) (live_tests soc) (top + length c.intervals) plan.cycles
      (λ i l at tam. omega (arith, h.ranked.below l.place l.core (live_module soc i at) (live_tam soc i at tam)))
      (load-le soc limits h.good h.ranked) in
      omega (arith, loads, mul-le-mul_right plan.cycles (rates-le c weights (top + length c.intervals) h.is_in.low h.ranked.fits (omega arith)))

  -- all costs are at most the worth of all cycles of the plan
  costs_fit : cost_of_all soc limits lists claim c weights ≤ worth_of_cycle limits.wires lists c weights * plan.cycles
  unfolding cost_of_all worth_of_cycle
  costs_fit =
      let product = add-mul (sum weights.ranks + weights.wire * spare limits.wires c.intervals) (weighed lists weights room_of) plan.cycles in
      omega (arith, product, mul_comm (weighed lists weights room_of) plan.cycles, all_costs-le, uses-le, rates_fit)

-- ---- leaves have no plan

-- every bus of a module with a test over the wires has a wire
abbrev pub SomeWire : SocValue → PlanValue → Type 0
SomeWire soc plan = (p : ℕ) (m : ModuleValue) → slice_get soc.modules p ≡ Some m → has_tam m ≡ true → 1 ≤ bus_width plan m

-- an empty case has none
pub empty_none : {soc : SocValue} {plan : PlanValue} {w : ℕ} {c : Case} {f rank : ℕ → ℕ} {top : ℕ} → IsRanked soc plan w f rank top → IsIn f rank (has_tam_at soc) c →
    IsEmpty w c → ⊥
empty_none {c} {f} ranked is empty = elim empty [
  | inl much ↦
      omega (arith, lows-le c.intervals f is.low, ranked.fits (length c.intervals), much)
  | inr crossed ↦ omega (arith, crossed.2, is.low crossed.0 crossed.1, is.high crossed.0 crossed.1)
]

pub sums_none : {soc : SocValue} {limits : LimitsValue} {lists : List ListValue} (claim : ℕ) {plan : PlanValue} → IsSoundChip soc → IsGood soc limits plan →
    IsTimed soc limits plan → SomeWire soc plan → AreKept soc limits lists → plan.cycles < claim → {c : Case} {weights : WeightsValue} → IsSum lists c weights →
    LeafHolds soc limits lists claim c weights → NoPlan soc plan limits.wires c
sums_none {soc} {limits} {lists} claim {plan} sound good timed some kept short {c} {weights} rule holds f rank top ranked is = elim holds [
  | inl empty ↦ empty_none ranked is empty
  | inr other ↦ elim other [
    | inl none ↦
        let at = slot_is leafing none.place none.tam in
        let nowhere = rw none.none at at.1 in
        absurd cc
    | inr more ↦ too_much more
  ]
]
  where
    leafing : Leafing soc limits lists plan claim c weights f rank top
    leafing = record {
      sound = sound;
      good = good;
      timed = timed;
      short = short;
      kept = kept;
      few = rule.few;
      some = λ p m at tam. omega (arith, some p m at tam, ranked.own p m at tam);
      ranked = ranked;
      is_in = is;
    }

    too_much : worth_of_cycle limits.wires lists c weights * claim < cost_of_all soc limits lists claim c weights + worth_of_cycle limits.wires lists c weights → ⊥
    too_much more =
        let next : worth_of_cycle limits.wires lists c weights * suc plan.cycles ≤ worth_of_cycle limits.wires lists c weights * claim = mul-le-mul_left (worth_of_cycle limits.wires lists c weights) (omega (arith, short)) in
        omega (arith, more, costs_fit leafing, next, mul-suc (worth_of_cycle limits.wires lists c weights) plan.cycles)
