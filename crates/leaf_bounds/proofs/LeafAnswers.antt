-- What is found at a leaf, from what is found of its lists, its modules, its ranks and its cycle.
use Rattle.std.proofs.Common.{◌≡◌, ℕ, ◌≤◌, ◌<◌, inl, inr, true, ◌+◌, Option, Some, None, List, length, get_or, take, refl, sym, ap, subst, arith, suc, ◌*◌, ◌⊎◌, false, ◌∙◌, mul-le-mul_right, add-mul, ◌≢◌, ◌-◌, Bool, [], ◌∷◌, slice_get, ◌&&◌, slice_index, if◌then◌else◌, All, sum, sum_by}
use Rattle.std.proofs.lemmas.List.{take_all, take_more}
use Rattle.std.proofs.lemmas.List.Elements.{All-push, All-head, All-tail}
use Rattle.std.proofs.lemmas.Option.{slice_get_within, same_Some}
use Rattle.soc_model.specs.Chips.{SocValue, ModuleValue, LiveTest, live_tests}
use Rattle.plan_model.specs.Certificates.{has_tam_at, passes}
use Rattle.plan_model.specs.Rules.{has_tam}
use Rattle.leaf_bounds.specs.declared.basis.Basis.{Basis}
use Rattle.leaf_bounds.specs.declared.case.CaseRoom.{CaseRoom}
use Rattle.leaf_bounds.specs.declared.leaf.LeafAnswer.{LeafAnswer}
use Rattle.leaf_bounds.specs.declared.leaf.LeafAnswer.TheVariants.{Broken, Holds, Shows}
use Rattle.plan_model.specs.Proofs.{ListValue, WeightsValue, OfSum}
use Rattle.leaf_bounds.specs.Cases.{Case, IsEmpty, spare}
use Rattle.leaf_bounds.specs.CaseRooms.{IsCaseOf}
use Rattle.leaf_bounds.specs.Leaves.{IsSum, self_use, weighed, slots_of, cost_of_all, leaf_shows, worth_of_cycle, is_rank, module_use, slot}
use Rattle.leaf_bounds.specs.Bases.{chip_of, limits_of, lists_of, claim_of}
use Rattle.leaf_bounds.specs.LeafAnswers.{IsLeafAnswer}
use Rattle.leaf_bounds.specs.LeafSlots.{IsNamed, IsSumOfLeast, IsWeighedAnswer, HasNoBusIn, IsLeastOf, IsOfModule, IsModuleCost, IsConclusion, HasBus, costs_at, least_at, AreTried, IsLesserOf, IsNoBetter, IsOfRange, IsOfRanks, IsTried, range_slot, rank_range}
use Rattle.std.proofs.lemmas.Bool.{cases_eq, cases_lt, lt-ltb, ne_eqb}
use Rattle.soc_model.specs.declared.Which.TheVariants.{Modules}
use Rattle.soc_model.specs.Sizes.{over}
use Rattle.soc_model.specs.SoundChips.{IsSoundChip}
use Rattle.plan_model.specs.Bounds.{sum_below, is_of}
use Rattle.leaf_bounds.specs.Lists.{room_of, use_of}
use Rattle.leaf_bounds.proofs.LeafSlots.{has_none, has_some, smallest_is, alone, no_rank, rank_more, rank_passed, rank_skipped, rank_tried}
use Rattle.std.proofs.lemmas.List.Sums.{sum_by-cons}
use Rattle.plan_model.proofs.Sums.{sum_by-le_at}
use Rattle.proof_facts.specs.Packed.{packed_tam_time, packed_time}
use Rattle.leaf_bounds.specs.declared.leaf_costs.BesideUse.{BesideUse}
use Rattle.leaf_bounds.specs.declared.leaf_costs.Weighed.{Weighed}
use Rattle.leaf_bounds.specs.declared.list_table.ListTable.{ListTable}
use Rattle.leaf_bounds.specs.declared.leaf_slots.RanksTried.{RanksTried}
use Rattle.leaf_bounds.specs.declared.leaf_slots.WidthRange.{WidthRange}
use Rattle.leaf_bounds.specs.LeafCosts.{IsWeighed, beside_use, drawn_use, test_cost}
use Rattle.leaf_bounds.proofs.LeafTests.{weighed_sum}

-- ==== what is found at a leaf, from what is found of its lists, its modules and its cycle

-- ---- the rule

pub keeps_rule : (lists : List ListValue) {room : CaseRoom} {c : Case} (weights : WeightsValue) → IsCaseOf room c →
    length weights.ranks ≤ length room.widths.intervals.items → All (IsNamed lists (length room.widths.intervals.items)) weights.lists → IsSum lists c weights
keeps_rule lists {room} {c} weights of few named =
    let long = ap length of.intervals in
    record { few = omega (arith, long, few); named = subst (λ n. All (IsNamed lists n) weights.lists) long named }

module _ (lists : List ListValue) (known : ℕ) (os : List (ℕ × ℕ)) (i : ℕ) where
  -- all of the first ones, and the next one
  pub named_next : i < length os → All (IsNamed lists known) (take i os) → IsNamed lists known (get_or os i (0, 0)) → All (IsNamed lists known) (take (i + 1) os)
  named_next less all next =
      subst (All (IsNamed lists known)) (sym (take_more os i (0, 0) less)) (All-push (IsNamed lists known) (take i os) (get_or os i (0, 0)) all next)

  pub all_named : length os ≤ i → All (IsNamed lists known) (take i os) → All (IsNamed lists known) os
  all_named long all = subst (All (IsNamed lists known)) (take_all i os long) all

-- ---- buses

-- a module with a test over the wires is in the chip
pub wired_within : (soc : SocValue) (place : ℕ) → has_tam_at soc place ≡ true → place < length soc.modules
wired_within soc place tam = go (slice_get soc.modules place) refl tam
  where
    go : (o : Option ModuleValue) → slice_get soc.modules place ≡ o → passes has_tam o ≡ true → place < length soc.modules
    go None at wired = absurd cc
    go (Some m) at wired = slice_get_within soc.modules place m at

module _ (g : Basis) (c : Case) (weights : WeightsValue) where
  -- where the sum is there, each module with a test over the wires has a bus
  pub some_bus : (modules : ℕ) → IsSumOfLeast g c weights (length (chip_of g).modules) (Some modules) → HasNoBusIn g c weights → ⊥
  some_bus modules sum none = sum.1 none.place (wired_within (chip_of g) none.place none.tam) none.tam none.none

  -- ---- what is found

  pub found : (o : LeafAnswer) → IsSum (lists_of g) c weights → (IsEmpty (limits_of g).wires c → ⊥) → IsWeighedAnswer g c weights o → (done : ℕ) →
      IsLeafAnswer g done c (OfSum weights) o
  found Broken rule some is done = absurd is
  found Holds rule some is done = (rule, inr is)
  found (Shows shown) rule some is done = record {
    rule = rule;
    less = λ h. elim h [
      | inl empty ↦ some empty
      | inr holds ↦ is.0 holds
    ];
    shown_is = is.1;
  }

-- ==== the least costs of all modules together, and the worth of a cycle

module _ (g : Basis) (c : Case) (weights : WeightsValue) (place : ℕ) where
  pub unwired : has_tam_at (chip_of g) place ≡ false → IsModuleCost g c weights place (Some 0)
  unwired off = (rw off refl, λ on none. let e = sym on ∙ off in absurd cc)

  pub wired : (o : Option ℕ) → has_tam_at (chip_of g) place ≡ true →
      IsLeastOf (costs_at g weights place) (IsOfModule (chip_of g) (limits_of g).wires (claim_of g) c weights place) o → IsModuleCost g c weights place o
  wired None on x = record { place = place; tam = on; none = has_none (slots_of (chip_of g) (limits_of g).wires (claim_of g) c weights place) x }
  wired (Some n) on x = (
    rw on (smallest_is (costs_at g weights place) (slots_of (chip_of g) (limits_of g).wires (claim_of g) c weights place) x),
    λ also none. has_some (costs_at g weights place) (slots_of (chip_of g) (limits_of g).wires (claim_of g) c weights place) x none,
  )

below_none : (f : ℕ → ℕ) → 0 ≡ sum_below f 0
unfolding sum_below
below_none f = refl

below_more : (f : ℕ → ℕ) (n : ℕ) → sum_below f (suc n) ≡ sum_below f n + f n
unfolding sum_below
below_more f n = refl

module _ (g : Basis) (c : Case) (weights : WeightsValue) where
  pub sum_none : IsSumOfLeast g c weights 0 (Some 0)
  sum_none = (below_none (least_at g c weights), λ p less. omega (arith, less))

  pub sum_more : (n s k : ℕ) → IsSumOfLeast g c weights n (Some s) → IsModuleCost g c weights n (Some k) → IsSumOfLeast g c weights (n + 1) (Some (s + k))
  sum_more n s k x y =
      let next : suc n ≡ n + 1 = omega arith in
      (subst (λ i. s + k ≡ sum_below (least_at g c weights) i) next (omega (arith, x.0, y.0, below_more (least_at g c weights) n)), λ p less. at p less (cases_eq p n))
    where
      at : (p : ℕ) → p < n + 1 → (p ≡ n) ⊎ (p ≡ n → ⊥) → HasBus g c weights p
      at p less (inl same) = subst (HasBus g c weights) (sym same) y.1
      at p less (inr other) = x.1 p (omega (arith, less, other))

pub few_more : (n most s k : ℕ) → s ≤ n * most → k ≤ most → s + k ≤ (n + 1) * most
few_more n most s k x y = omega (arith, add-mul n 1 most, x, y)

pub few_all : (n m most s : ℕ) → n ≤ m → s ≤ n * most → s ≤ m * most
few_all n m most s less x = omega (arith, x, mul-le-mul_right most less)

pub worth_is : (w : ℕ) (lists : List ListValue) (c : Case) (weights : WeightsValue) (a : ℕ) {b r : ℕ} → a ≡ sum weights.ranks → b ≡ weights.wire * spare w c.intervals →
    r ≡ weighed lists weights room_of → a + b + r ≡ worth_of_cycle w lists c weights
unfolding worth_of_cycle
worth_is w lists c weights a x y z = omega (arith, x, y, z)

not_over : (most n : ℕ) → over most n ≡ None → n ≤ most
not_over most n e = elim (cases_lt most n) [
  | inl passed ↦ let more : over most n ≡ Some n = rw (lt-ltb most n passed) refl in let x = sym more ∙ e in absurd cc
  | inr fits ↦ fits
]

-- a chip has a thousand modules at most
pub few_modules : {soc : SocValue} → IsSoundChip soc → length soc.modules ≤ 1000
few_modules {soc} sound = not_over 1000 (length soc.modules) (sound.size Modules)

-- what a cost and a worth make of the claim is what is found at the leaf
pub concluded : (g : Basis) (c : Case) (weights : WeightsValue) (modules : ℕ) {own worth : ℕ} (o : LeafAnswer) →
    IsSumOfLeast g c weights (length (chip_of g).modules) (Some modules) → own ≡ weighed (lists_of g) weights (self_use (chip_of g) (limits_of g)) →
    worth ≡ worth_of_cycle (limits_of g).wires (lists_of g) c weights → (HasNoBusIn g c weights → ⊥) → IsConclusion (modules + own) worth (claim_of g) o →
    IsWeighedAnswer g c weights o
unfolding cost_of_all leaf_shows
concluded g c weights modules Broken x y z some is = is
concluded g c weights modules Holds x y z some is = inr (rw (← x.0, ← y, ← z) is)
concluded g c weights modules (Shows shown) x y z some is = (
  λ h. elim h [
    | inl none ↦ some none
    | inr much ↦ is.less (rw (x.0, y, z) much)
  ],
  is.shown_is ∙ rw (x.0, y, z) refl,
)

-- ==== ranks one by one: which of them need no look

-- ---- a test costs least on a bus that no list speaks of

abbrev pub HasNoList : Weighed → ℕ → Type 0
HasNoList room rank = All (λ (b : BesideUse). b.rank ≢ rank) room.beside.items

-- a known rank, or the rest
abbrev pub IsAside : Weighed → Option ℕ → Type 0
IsAside room own = All (λ (b : BesideUse). is_rank own b.rank ≡ false) room.beside.items

pub known_aside : (room : Weighed) (rank : ℕ) → HasNoList room rank → IsAside room (Some rank)
known_aside room rank none = λ i d less. ne_eqb rank (get_or room.beside.items i d).rank (λ same. none i d less (sym same))

none_beside : (table : ListTable) (own : Option ℕ) (i cycles : ℕ) (bs : List BesideUse) → All (λ (b : BesideUse). is_rank own b.rank ≡ false) bs → sum_by (beside_use table (is_rank own) i cycles) bs ≡ 0
none_beside table own i cycles [] none = refl
none_beside table own i cycles (b ∷ bs) none =
    let here : beside_use table (is_rank own) i cycles b ≡ 0 = rw (All-head (λ (c : BesideUse). is_rank own c.rank ≡ false) b bs none) refl in
    sum_by-cons (beside_use table (is_rank own) i cycles) b bs ∙ omega (arith, here, none_beside table own i cycles bs (All-tail (λ (c : BesideUse). is_rank own c.rank ≡ false) b bs none))

costs_least : {g : Basis} {weights : WeightsValue} {room : Weighed} (own other : Option ℕ) (width i : ℕ) {l : LiveTest} → IsWeighed g weights room → IsAside room own →
    slice_get (live_tests (chip_of g)) i ≡ Some l →
    test_cost (chip_of g) (limits_of g) (lists_of g) weights own width l ≤ test_cost (chip_of g) (limits_of g) (lists_of g) weights other width l
costs_least {g} {weights} {room} own other width i {l} w none at =
    omega (arith, none_beside g.lists own i (packed_time l.core l.test width) room.beside.items none, on own, on other)
  where
    on : (r : Option ℕ) → test_cost (chip_of g) (limits_of g) (lists_of g) weights r width l
        ≡ slice_index room.sums.items i * packed_time l.core l.test width + sum_by (beside_use g.lists (is_rank r) i (packed_time l.core l.test width)) room.beside.items
        + sum_by (drawn_use (limits_of g) l (packed_time l.core l.test width)) room.power.items
    on r =
        let cycles = packed_time l.core l.test width in
        sym (w.same (λ list. use_of (chip_of g) (limits_of g) (is_rank r) list cycles l)) ∙ w.made.uses (is_rank r) i cycles l at

kind-le : (b : Bool) (x y : ℕ) → x ≤ y → (if b then x else 0) ≤ (if b then y else 0)
kind-le true x y less = less
kind-le false x y less = omega arith

-- so a module costs no more there at a lower rate
pub lower_rate : {g : Basis} {weights : WeightsValue} {room : Weighed} (place : ℕ) (own other : Option ℕ) (width low high : ℕ) → IsWeighed g weights room →
    IsAside room own → low ≤ high → costs_at g weights place (slot own width low) ≤ costs_at g weights place (slot other width high)
lower_rate {g} {weights} place own other width low high w none less =
    let by = λ (r : Option ℕ) (l : LiveTest). if l.test.tam && is_of place l then test_cost (chip_of g) (limits_of g) (lists_of g) weights r width l else 0 in
    let uses : sum_by (by own) (live_tests (chip_of g)) ≤ sum_by (by other) (live_tests (chip_of g)) =
    sum_by-le_at (by own) (by other) (live_tests (chip_of g)) (λ i l at. kind-le (l.test.tam && is_of place l) (test_cost (chip_of g) (limits_of g) (lists_of g) weights own width l) (test_cost (chip_of g) (limits_of g) (lists_of g) weights other width l)
    (costs_least own other width i w none at)) in
    omega (arith, uses, mul-le-mul_right (packed_tam_time (chip_of g) place width) less, turned own low, turned other high)
  where
    turned : (r : Option ℕ) (rate : ℕ) → weighed (lists_of g) weights (module_use (chip_of g) (limits_of g) place (slot r width rate))
        ≡ sum_by (λ (l : LiveTest). if l.test.tam && is_of place l then test_cost (chip_of g) (limits_of g) (lists_of g) weights r width l else 0) (live_tests (chip_of g))
    turned r rate =
        weighed_sum (lists_of g) weights (λ l. l.test.tam && is_of place l) (λ list l. use_of (chip_of g) (limits_of g) (is_rank r) list (packed_time l.core l.test width) l) (live_tests (chip_of g))

-- ---- one rank more

pub none_tried : (g : Basis) (c : Case) (weights : WeightsValue) (room : Weighed) (place : ℕ) → AreTried g c weights room place 0 (record { least = None; last = None })
none_tried g c weights room place = record {
  least = no_rank (costs_at g weights place) (chip_of g) (claim_of g) c weights place;
  last = λ range at. absurd cc;
}

later : {c : Case} {weights : WeightsValue} {room : Weighed} {place end : ℕ} {range : WidthRange} → IsTried c weights room place end range →
    IsTried c weights room place (end + 1) range
later is = record { rank = is.rank; below = omega (arith, is.below); may = is.may; no_list = is.no_list; range_is = is.range_is }

module _ {g : Basis} {c : Case} {weights : WeightsValue} (room : Weighed) {place : ℕ} (rank : ℕ) (tried : RanksTried) where
  -- the module may not be on it
  pub kept_off : c.may place rank ≡ false → AreTried g c weights room place rank tried → AreTried g c weights room place (rank + 1) tried
  kept_off off is = record {
    least = subst (IsLeastOf (costs_at g weights place) (IsOfRanks (chip_of g) (claim_of g) c weights place (rank + 1))) (sym (alone tried.least))
        (rank_more (costs_at g weights place) (chip_of g) (claim_of g) c weights place rank tried.least None is.least (rank_skipped (costs_at g weights place) (chip_of g) (claim_of g) c weights place rank off));
    last = λ range at. later (is.last range at);
  }

  -- it is no better than one that was tried
  pub passed : {range earlier : WidthRange} → IsWeighed g weights room → tried.last ≡ Some earlier → range ≡ rank_range c weights rank → IsNoBetter range earlier →
      AreTried g c weights room place rank tried → AreTried g c weights room place (rank + 1) tried
  passed {range} {earlier} w last is no_better are =
      let before = are.last earlier last in
      let no_better' = subst (λ r. IsNoBetter r (rank_range c weights before.rank)) is (subst (IsNoBetter range) before.range_is no_better) in
      record {
        least = rank_passed (costs_at g weights place) (chip_of g) (claim_of g) c weights place rank before.rank tried.least before.below before.may no_better'.low no_better'.high (cheaper before.rank before.no_list no_better') are.least;
        last = λ r at. later (are.last r at);
      }
    where
      cheaper : (earlier : ℕ) → HasNoList room earlier → IsNoBetter (rank_range c weights rank) (rank_range c weights earlier) → (width : ℕ) →
          costs_at g weights place (range_slot (rank_range c weights earlier) width) ≤ costs_at g weights place (range_slot (rank_range c weights rank) width)
      cheaper earlier none no_better width =
          let a = rank_range c weights earlier in
          let b = rank_range c weights rank in
          let rate : a.base + a.wire * (width - a.low) ≤ b.base + b.wire * (width - b.low) = rw no_better.low (omega (arith, no_better.base)) in
          lower_rate place (Some earlier) b.rank width (a.base + a.wire * (width - a.low)) (b.base + b.wire * (width - b.low)) w (known_aside room earlier none) rate

  -- it is tried, and later ones are compared with it, or with the one before
  pub one_tried : {range : WidthRange} {least : Option ℕ} (next : Option WidthRange) → c.may place rank ≡ true → range ≡ rank_range c weights rank →
      IsLesserOf (costs_at g weights place) (IsOfRange (chip_of g) (claim_of g) place range (range.high + 1)) tried.least least →
      (next ≡ tried.last) ⊎ ((next ≡ Some range) × HasNoList room rank) → AreTried g c weights room place rank tried →
      AreTried g c weights room place (rank + 1) (record { least = least; last = next })
  one_tried {range} {least} next may is x which are = record {
    least = subst (IsLeastOf (costs_at g weights place) (IsOfRanks (chip_of g) (claim_of g) c weights place (rank + 1))) (sym x.is)
        (rank_more (costs_at g weights place) (chip_of g) (claim_of g) c weights place rank tried.least x.own are.least (rank_tried (costs_at g weights place) (chip_of g) (claim_of g) c weights place rank x.own may is x.own_is));
    last = λ r at. elim which [
      | inl same ↦ later (are.last r (sym same ∙ at))
      | inr new ↦ record { rank = rank; below = omega arith; may = may; no_list = new.1; range_is = sym (same_Some range r (sym new.0 ∙ at)) ∙ is }
    ];
  }
