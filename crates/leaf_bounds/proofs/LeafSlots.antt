-- The least cost over ranges of widths, and over all buses of a module.
use Rattle.std.proofs.Common.{◌≡◌, ℕ, zero, suc, ◌+◌, ◌-◌, ◌*◌, ◌≤◌, ◌<◌, ◌⊎◌, min, max, Bool, true, false, Option, Some, None, List, [], ◌∷◌, length, map, refl, ap, sym, ◌∙◌, subst, arith, inl, inr, mul-le-mul_left, slice_get, IfSome, if◌then◌else◌, flat_map}
use Rattle.std.specs.List.{range_with_len}
use Rattle.std.proofs.lemmas.Bool.{cases_eq, cases_lt}
use Rattle.soc_model.specs.Chips.{SocValue}
use Rattle.proof_facts.specs.Packed.{packed_tam_time}
use Rattle.plan_model.specs.Plans.{smallest}
use Rattle.plan_model.proofs.Lists.{from_append, from_flat_map, from_filter}
use Rattle.leaf_bounds.specs.declared.case.CaseRoom.{CaseRoom}
use Rattle.leaf_bounds.specs.declared.places.Placing.{Placing}
use Rattle.leaf_bounds.specs.CaseRooms.{IsCaseOf}
use Rattle.leaf_bounds.specs.Takings.{bit_at}
use Rattle.leaf_bounds.specs.Bits.{HasPlace, bit_place}
use Rattle.leaf_bounds.specs.declared.leaf_slots.WidthRange.{WidthRange}
use Rattle.leaf_bounds.specs.declared.basis.Basis.{Basis}
use Rattle.plan_model.specs.Proofs.{WeightsValue}
use Rattle.leaf_bounds.specs.Bases.{chip_of, limits_of, lists_of}
use Rattle.leaf_bounds.specs.Laws.{WiderSlotsCostNoLess}
use Rattle.leaf_bounds.specs.Cases.{Case, known_ranks, low_at, high_at}
use Rattle.leaf_bounds.specs.Leaves.{Slot, slot, from_to, slot_at, slots_at, rest_high, rest_slot, rest_slots, all_slots, is_short}
use Rattle.leaf_bounds.specs.LeafSlots.{IsCostOf, IsLeast, IsLeastOf, IsLesserOf, IsLesserOfOne, IsOfModule, IsOfRange, IsOfRank, IsOfRanks, IsOfRest, costs_at, lesser, range_slot, rank_range, rest_range}
use Rattle.leaf_bounds.proofs.WeighedSums.{of_known, of_rest, smallest-le}
use Rattle.common_lemmas.proofs.Lists.{in_filter, from_map}

-- ---- the least of two

module _ (f : Slot → ℕ) (A B : Slot → Type 0) where
  pub joined : (C : Slot → Type 0) (a b : Option ℕ) → IsLeastOf f A a → IsLeastOf f B b → ((s : Slot) → C s → A s ⊎ B s) → ((s : Slot) → A s → C s) →
      ((s : Slot) → B s → C s) → IsLeastOf f C (lesser a b)
  joined C None None x y from left right = λ s is. elim (from s is) [
    | inl l ↦ x s l
    | inr r ↦ y s r
  ]
  joined C None (Some n) x y from left right = record {
    bus = y.bus;
    is = right y.bus y.is;
    cost_is = y.cost_is;
    least = λ s is. elim (from s is) [
      | inl l ↦ absurd (x s l)
      | inr r ↦ y.least s r
    ];
  }
  joined C (Some m) None x y from left right = record {
    bus = x.bus;
    is = left x.bus x.is;
    cost_is = x.cost_is;
    least = λ s is. elim (from s is) [
      | inl l ↦ x.least s l
      | inr r ↦ absurd (y s r)
    ];
  }
  joined C (Some m) (Some n) x y from left right = elim (cases_lt m n) [
    | inl less ↦
        let same : min m n ≡ m = omega arith in
        record {
          bus = x.bus;
          is = left x.bus x.is;
          cost_is = x.cost_is ∙ sym same;
          least = λ s is. elim (from s is) [
            | inl l ↦ omega (arith, x.least s l)
            | inr r ↦ omega (arith, y.least s r)
          ];
        }
    | inr more ↦
        let same : min m n ≡ n = omega (arith, more) in
        record {
          bus = y.bus;
          is = right y.bus y.is;
          cost_is = y.cost_is ∙ sym same;
          least = λ s is. elim (from s is) [
            | inl l ↦ omega (arith, x.least s l)
            | inr r ↦ omega (arith, y.least s r)
          ];
        }
  ]

  -- buses that are told otherwise have the least one as before
  pub least_same : (o : Option ℕ) → IsLeastOf f A o → ((s : Slot) → B s → A s) → ((s : Slot) → A s → B s) → IsLeastOf f B o
  least_same None x from to = λ s is. x s (from s is)
  least_same (Some n) x from to = record {
    bus = x.bus;
    is = to x.bus x.is;
    cost_is = x.cost_is;
    least = λ s is. x.least s (from s is);
  }

-- ---- one width more

pub no_width : (f : Slot → ℕ) (soc : SocValue) (claim place : ℕ) (r : WidthRange) (end : ℕ) → end ≤ r.first → IsLeastOf f (IsOfRange soc claim place r end) None
no_width f soc claim place r end less = λ s is. omega (arith, less, is.from, is.below)

module _ (soc : SocValue) (claim place : ℕ) (r : WidthRange) (w : ℕ) (s : Slot) where
  wider : IsOfRange soc claim place r w s → IsOfRange soc claim place r (w + 1) s
  wider is = record {
    width = is.width;
    from = is.from;
    below = omega (arith, is.below);
    slot_is = is.slot_is;
    short = is.short;
  }

  -- it is of a lesser width, or the bus at this one
  last_or : IsOfRange soc claim place r (w + 1) s → IsOfRange soc claim place r w s ⊎ ((s ≡ range_slot r w) × (is_short soc claim place s ≡ true))
  last_or is = elim (cases_eq is.width w) [
    | inl same ↦ inr (is.slot_is ∙ ap (range_slot r) same, is.short)
    | inr other ↦ inl record {
      width = is.width;
      from = is.from;
      below = omega (arith, is.below, other);
      slot_is = is.slot_is;
      short = is.short;
    }
  ]

  -- the one bus at a width
  abbrev IsOne : Type 0
  IsOne = (s ≡ range_slot r w) × (is_short soc claim place s ≡ true)

module _ (f : Slot → ℕ) (soc : SocValue) (claim place : ℕ) (r : WidthRange) (w : ℕ) where
  one_least : (o : Option ℕ) → IsCostOf f soc claim place (range_slot r w) o → IsLeastOf f (IsOne soc claim place r w) o
  one_least None x = λ s is. let e = sym is.1 ∙ ap (is_short soc claim place) is.0 ∙ x in absurd cc
  one_least (Some n) x = record {
    bus = range_slot r w;
    is = (refl, x.0);
    cost_is = x.1;
    least = λ s is. omega (arith, ap f is.0 ∙ x.1);
  }

  -- this width is tried
  pub width_tried : (a b : Option ℕ) → r.first ≤ w → IsLeastOf f (IsOfRange soc claim place r w) a → IsCostOf f soc claim place (range_slot r w) b →
      IsLeastOf f (IsOfRange soc claim place r (w + 1)) (lesser a b)
  width_tried a b from x y =
      joined f (IsOfRange soc claim place r w) (IsOne soc claim place r w) (IsOfRange soc claim place r (w + 1)) a b x (one_least b y)
      (last_or soc claim place r w) (wider soc claim place r w)
      (λ s is. record { width = w; from = from; below = omega arith; slot_is = is.0; short = is.1 })

  -- from this width on those below another one take as long, and cost no less
  same_up_to : (end : ℕ) (o : Option ℕ) → r.first ≤ w → w < end → ((v : ℕ) → w ≤ v → v < end → f (range_slot r w) ≤ f (range_slot r v)) →
      ((v : ℕ) → w ≤ v → v < end → packed_tam_time soc place v ≡ packed_tam_time soc place w) → IsLeastOf f (IsOfRange soc claim place r (w + 1)) o →
      IsLeastOf f (IsOfRange soc claim place r end) o
  same_up_to end o from less more same x = go o x
    where
      within : (s : Slot) → IsOfRange soc claim place r (w + 1) s → IsOfRange soc claim place r end s
      within s is = record {
        width = is.width;
        from = is.from;
        below = omega (arith, is.below, less);
        slot_is = is.slot_is;
        short = is.short;
      }

      first : (s : Slot) (is : IsOfRange soc claim place r end s) → w ≤ is.width → IsOfRange soc claim place r (w + 1) (range_slot r w)
      first s is past = record {
        width = w;
        from = from;
        below = omega arith;
        slot_is = refl;
        short = rw (← same is.width past is.below) (sym (ap (is_short soc claim place) is.slot_is) ∙ is.short);
      }

      below_or : (s : Slot) (is : IsOfRange soc claim place r end s) → IsOfRange soc claim place r (w + 1) s ⊎ (w ≤ is.width)
      below_or s is = elim (cases_lt is.width (w + 1)) [
        | inl low ↦ inl record {
          width = is.width;
          from = is.from;
          below = low;
          slot_is = is.slot_is;
          short = is.short;
        }
        | inr high ↦ inr (omega (arith, high))
      ]

      go : (o : Option ℕ) → IsLeastOf f (IsOfRange soc claim place r (w + 1)) o → IsLeastOf f (IsOfRange soc claim place r end) o
      go None x = λ s is. elim (below_or s is) [
        | inl l ↦ x s l
        | inr past ↦ x (range_slot r w) (first s is past)
      ]
      go (Some n) x = record {
        bus = x.bus;
        is = within x.bus x.is;
        cost_is = x.cost_is;
        least = λ s is. elim (below_or s is) [
          | inl l ↦ x.least s l
          | inr past ↦
              omega (arith, x.least (range_slot r w) (first s is past), ap f is.slot_is, more is.width past is.below)
        ];
      }

  -- the next width with another time is gone on to
  pub range_jump : (n : ℕ) (a b : Option ℕ) → r.first ≤ w → w < n → w ≤ r.high → ((v : ℕ) → w ≤ v → v < n → f (range_slot r w) ≤ f (range_slot r v)) →
      ((v : ℕ) → w ≤ v → v < n → packed_tam_time soc place v ≡ packed_tam_time soc place w) → IsLeastOf f (IsOfRange soc claim place r (min w (r.high + 1))) a →
      IsCostOf f soc claim place (range_slot r w) b → IsLeastOf f (IsOfRange soc claim place r (min n (r.high + 1))) (lesser a b)
  range_jump n a b from less in_range more same x y =
      let now : min w (r.high + 1) ≡ w = omega (arith, in_range) in
      same_up_to (min n (r.high + 1)) (lesser a b) from (omega (arith, less, in_range)) (λ v past below. more v past (omega (arith, below))) (λ v past below. same v past (omega (arith, below)))
      (width_tried a b from (subst (λ k. IsLeastOf f (IsOfRange soc claim place r k) a) now x) y)

-- at no lesser rate
pub jump_costs : WiderSlotsCostNoLess → (g : Basis) (weights : WeightsValue) (place : ℕ) (r : WidthRange) (w v : ℕ) → 1 ≤ w → w ≤ v →
    packed_tam_time (chip_of g) place w ≡ packed_tam_time (chip_of g) place v → costs_at g weights place (range_slot r w) ≤ costs_at g weights place (range_slot r v)
jump_costs law g weights place r w v some more same =
    let less : w - r.low ≤ v - r.low = omega (arith, more) in
    law (chip_of g) (limits_of g) (lists_of g) weights place r.rank w v (r.base + r.wire * (w - r.low)) (r.base + r.wire * (v - r.low))
    some more same (omega (arith, mul-le-mul_left r.wire less))

-- all widths of the range are tried
pub range_done : (f : Slot → ℕ) (soc : SocValue) (claim place : ℕ) (r : WidthRange) (w : ℕ) (o : Option ℕ) → r.high + 1 ≤ w → IsLeastOf f (IsOfRange soc claim place r (min w (r.high + 1))) o → IsLeastOf f (IsOfRange soc claim place r (r.high + 1)) o
range_done f soc claim place r w o all x = let e : min w (r.high + 1) ≡ r.high + 1 = omega (arith, all) in subst (λ n. IsLeastOf f (IsOfRange soc claim place r n) o) e x

-- the lesser is no greater than both
pub lesser_small : (a b : Option ℕ) (k : ℕ) → IfSome a (λ n. n ≤ k) → IfSome b (λ n. n ≤ k) → IfSome (lesser a b) (λ n. n ≤ k)
lesser_small None b k x y = y
lesser_small (Some m) None k x y = x
lesser_small (Some m) (Some n) k x y = omega (arith, x, y)

-- what was least before is handed on from width to width

pub alone : (o : Option ℕ) → o ≡ lesser o None
alone None = refl
alone (Some n) = refl

lesser_assoc : (a b c : Option ℕ) → lesser (lesser a b) c ≡ lesser a (lesser b c)
lesser_assoc None b c = refl
lesser_assoc (Some m) None c = refl
lesser_assoc (Some m) (Some n) None = refl
lesser_assoc (Some m) (Some n) (Some k) = ap Some (omega arith)

pub none_lesser : (f : Slot → ℕ) (Is : Slot → Type 0) (least : Option ℕ) → IsLeastOf f Is None → IsLesserOf f Is least least
none_lesser f Is least x = record { own = None; own_is = x; is = alone least }

module _ (f : Slot → ℕ) (soc : SocValue) (claim place : ℕ) where
  pub range_lesser : (r : WidthRange) (w n : ℕ) {least best new : Option ℕ} → r.first ≤ w → w < n → w ≤ r.high →
      ((v : ℕ) → w ≤ v → v < n → f (range_slot r w) ≤ f (range_slot r v)) → ((v : ℕ) → w ≤ v → v < n → packed_tam_time soc place v ≡ packed_tam_time soc place w) →
      IsLesserOf f (IsOfRange soc claim place r (min w (r.high + 1))) least best → IsLesserOfOne f soc claim place (range_slot r w) best new →
      IsLesserOf f (IsOfRange soc claim place r (min n (r.high + 1))) least new
  range_lesser r w n {least} from less in_range more same x y = record {
    own = lesser x.own y.own;
    own_is = range_jump f soc claim place r w n x.own y.own from less in_range more same x.own_is y.own_is;
    is = y.is ∙ ap (λ o. lesser o y.own) x.is ∙ lesser_assoc least x.own y.own;
  }

  pub range_ended : (r : WidthRange) (w : ℕ) {least best : Option ℕ} → r.high + 1 ≤ w → IsLesserOf f (IsOfRange soc claim place r (min w (r.high + 1))) least best →
      IsLesserOf f (IsOfRange soc claim place r (r.high + 1)) least best
  range_ended r w all x = record { own = x.own; own_is = range_done f soc claim place r w x.own all x.own_is; is = x.is }

  -- a bus that costs no less than what was least
  pub no_lesser : (s : Slot) {least : Option ℕ} {n : ℕ} → is_short soc claim place s ≡ true → least ≡ Some n → n ≤ f s → IsLesserOfOne f soc claim place s least least
  no_lesser s {n} short is less =
      let same : min n (f s) ≡ n = omega (arith, less) in
      record { own = Some (f s); own_is = (short, refl); is = rw is (ap Some (sym same)) }

-- ---- one rank more

module _ (f : Slot → ℕ) (soc : SocValue) (claim : ℕ) (c : Case) (weights : WeightsValue) (place : ℕ) where
  -- the module may be on the rank
  pub rank_tried : (k : ℕ) {r : WidthRange} (o : Option ℕ) → c.may place k ≡ true → r ≡ rank_range c weights k → IsLeastOf f (IsOfRange soc claim place r (r.high + 1)) o →
      IsLeastOf f (IsOfRank soc claim c weights place k) o
  rank_tried k o may is x =
      least_same f (IsOfRange soc claim place (rank_range c weights k) (high_at c k + 1)) (IsOfRank soc claim c weights place k) o
      (subst (λ q. IsLeastOf f (IsOfRange soc claim place q (q.high + 1)) o) is x)
      (λ s has. has.of_range) (λ s has. record { may = may; of_range = has })

  -- it may not
  pub rank_skipped : (k : ℕ) → c.may place k ≡ false → IsLeastOf f (IsOfRank soc claim c weights place k) None
  rank_skipped k off = λ s is. let e = sym is.may ∙ off in absurd cc

  pub no_rank : IsLeastOf f (IsOfRanks soc claim c weights place 0) None
  no_rank = λ s is. omega (arith, is.below)

-- a bus of the first ranks is on the last of these or on one before it
last_rank : (soc : SocValue) (claim : ℕ) (c : Case) (weights : WeightsValue) (place k : ℕ) (s : Slot) → IsOfRanks soc claim c weights place (k + 1) s →
    IsOfRanks soc claim c weights place k s ⊎ IsOfRank soc claim c weights place k s
last_rank soc claim c weights place k s is = elim (cases_eq is.rank k) [
  | inl same ↦ inr (subst (λ q. IsOfRank soc claim c weights place q s) same is.of_rank)
  | inr other ↦ inl record { rank = is.rank; below = omega (arith, is.below, other); of_rank = is.of_rank }
]

module _ (f : Slot → ℕ) (soc : SocValue) (claim : ℕ) (c : Case) (weights : WeightsValue) (place k : ℕ) where
  pub rank_more : (a b : Option ℕ) → IsLeastOf f (IsOfRanks soc claim c weights place k) a → IsLeastOf f (IsOfRank soc claim c weights place k) b →
      IsLeastOf f (IsOfRanks soc claim c weights place (k + 1)) (lesser a b)
  rank_more a b x y =
      joined f (IsOfRanks soc claim c weights place k) (IsOfRank soc claim c weights place k) (IsOfRanks soc claim c weights place (k + 1)) a b x y
      (last_rank soc claim c weights place k)
      (λ s is. record { rank = is.rank; below = omega (arith, is.below); of_rank = is.of_rank })
      (λ s is. record { rank = k; below = omega arith; of_rank = is })

  -- a rank no bus of which costs less than that of an earlier rank needs no look
  pub rank_passed : (earlier : ℕ) (o : Option ℕ) → earlier < k → c.may place earlier ≡ true → low_at c k ≡ low_at c earlier → high_at c k ≤ high_at c earlier →
      ((w : ℕ) → f (range_slot (rank_range c weights earlier) w) ≤ f (range_slot (rank_range c weights k) w)) → IsLeastOf f (IsOfRanks soc claim c weights place k) o →
      IsLeastOf f (IsOfRanks soc claim c weights place (k + 1)) o
  rank_passed earlier o before may low high less x = go o x
    where
      there : (s : Slot) (is : IsOfRank soc claim c weights place k s) → IsOfRanks soc claim c weights place k (range_slot (rank_range c weights earlier) is.of_range.width)
      there s is = record {
        rank = earlier;
        below = before;
        of_rank = record {
          may = may;
          of_range = record {
            width = is.of_range.width;
            from = omega (arith, low, is.of_range.from);
            below = omega (arith, high, is.of_range.below);
            slot_is = refl;
            short = sym (ap (is_short soc claim place) is.of_range.slot_is) ∙ is.of_range.short;
          };
        };
      }

      go : (o : Option ℕ) → IsLeastOf f (IsOfRanks soc claim c weights place k) o → IsLeastOf f (IsOfRanks soc claim c weights place (k + 1)) o
      go None x = λ s is. elim (last_rank soc claim c weights place k s is) [
        | inl l ↦ x s l
        | inr r ↦ x (range_slot (rank_range c weights earlier) r.of_range.width) (there s r)
      ]
      go (Some n) x = record {
        bus = x.bus;
        is = record { rank = x.is.rank; below = omega (arith, x.is.below); of_rank = x.is.of_rank };
        cost_is = x.cost_is;
        least = λ s is. elim (last_rank soc claim c weights place k s is) [
          | inl l ↦ x.least s l
          | inr r ↦
              let here = ap f r.of_range.slot_is in
              omega (arith, here, less r.of_range.width, x.least (range_slot (rank_range c weights earlier) r.of_range.width) (there s r))
        ];
      }

-- ---- the rest

module _ (f : Slot → ℕ) (soc : SocValue) (w claim : ℕ) (c : Case) (weights : WeightsValue) (place : ℕ) where
  pub rest_tried : {r : WidthRange} (o : Option ℕ) → c.may_rest place ≡ true → r ≡ rest_range w c weights → IsLeastOf f (IsOfRange soc claim place r (r.high + 1)) o →
      IsLeastOf f (IsOfRest soc w claim c weights place) o
  rest_tried o may is x =
      least_same f (IsOfRange soc claim place (rest_range w c weights) (rest_high w c (known_ranks c) + 1)) (IsOfRest soc w claim c weights place) o
      (subst (λ q. IsLeastOf f (IsOfRange soc claim place q (q.high + 1)) o) is x)
      (λ s is. is.of_range) (λ s is. record { may = may; of_range = is })

  pub rest_skipped : c.may_rest place ≡ false → IsLeastOf f (IsOfRest soc w claim c weights place) None
  rest_skipped off = λ s is. let e = sym is.may ∙ off in absurd cc

-- ---- all buses of a module

from_range : (a n : ℕ) {v : ℕ} (i : ℕ) → slice_get (range_with_len a n) i ≡ Some v → (a ≤ v) × (v < a + n)
from_range a zero i at = absurd cc
from_range a (suc n) {v} zero at = let same : a ≡ v = cc in (omega (arith, same), omega (arith, same))
from_range a (suc n) (suc i) at = let r = from_range (a + 1) n i at in (omega (arith, r.0), omega (arith, r.1))

rest_same : (weights : WeightsValue) (w : ℕ) (c : Case) (v : ℕ) → range_slot (rest_range w c weights) v ≡ rest_slot weights v
rest_same weights w c v = let e : 0 + weights.wire * (v - 0) ≡ weights.wire * v = (let z : v - 0 ≡ v = omega arith in rw z (omega arith)) in ap (slot None v) e

module _ (soc : SocValue) (w claim : ℕ) (c : Case) (weights : WeightsValue) (place : ℕ) (s : Slot) where
  -- each bus that counts is on a known rank or on the rest
  pub bus_of : IsOfModule soc w claim c weights place s → IsOfRanks soc claim c weights place (known_ranks c) s ⊎ IsOfRest soc w claim c weights place s
  bus_of is =
      let there = from_filter (is_short soc claim place) (all_slots w c weights place) is.0 s is.1 in
      elim (from_append (flat_map (λ rank. if c.may place rank then slots_at c weights rank else []) (range_with_len 0 (known_ranks c))) (if c.may_rest place then rest_slots w c weights else []) there.0 s there.1) [
        | inl known ↦
            let x = from_flat_map (λ rank. if c.may place rank then slots_at c weights rank else []) (range_with_len 0 (known_ranks c)) there.0 s known in
            inl (on_rank x.1 x.2 (omega (arith, (from_range 0 (known_ranks c) x.0 x.3).1)) (c.may place x.1) refl x.4 there.2)
        | inr rest ↦ inr (on_rest rest.0 (c.may_rest place) refl rest.2 there.2)
      ]
    where
      on_rank : (r j : ℕ) → r < known_ranks c → (b : Bool) → c.may place r ≡ b → slice_get (if b then slots_at c weights r else []) j ≡ Some s → is_short soc claim place s ≡ true → IsOfRanks soc claim c weights place (known_ranks c) s
      on_rank r j less false e at short = absurd cc
      on_rank r j less true e at short =
          let x = from_map (slot_at c weights r) (from_to (max 1 (low_at c r)) (high_at c r)) j s at in
          let v = from_range (max 1 (low_at c r)) (high_at c r + 1 - max 1 (low_at c r)) j x.1 in
          record {
            rank = r;
            below = less;
            of_rank = record {
              may = e;
              of_range = record { width = x.0; from = v.0; below = omega (arith, v.0, v.1); slot_is = sym x.2; short = short };
            };
          }

      on_rest : (j : ℕ) → (b : Bool) → c.may_rest place ≡ b → slice_get (if b then rest_slots w c weights else []) j ≡ Some s → is_short soc claim place s ≡ true → IsOfRest soc w claim c weights place s
      on_rest j false e at short = absurd cc
      on_rest j true e at short =
          let x = from_map (rest_slot weights) (from_to 1 (rest_high w c (known_ranks c))) j s at in
          let v = from_range 1 (rest_high w c (known_ranks c) + 1 - 1) j x.1 in
          record {
            may = e;
            of_range = record { width = x.0; from = v.0; below = omega (arith, v.0, v.1); slot_is = sym x.2 ∙ sym (rest_same weights w c x.0); short = short };
          }

  pub of_ranks : IsOfRanks soc claim c weights place (known_ranks c) s → IsOfModule soc w claim c weights place s
  of_ranks is =
      let low = is.of_rank.of_range.from in
      let at = of_known w c weights place is.rank is.of_rank.of_range.width is.below is.of_rank.may (omega (arith, low)) (omega (arith, low)) (omega (arith, is.of_rank.of_range.below)) in
      in_filter (is_short soc claim place) (all_slots w c weights place) at.0 s (at.1 ∙ ap Some (sym is.of_rank.of_range.slot_is)) is.of_rank.of_range.short

  pub of_the_rest : IsOfRest soc w claim c weights place s → IsOfModule soc w claim c weights place s
  of_the_rest is =
      let at = of_rest w c weights place is.of_range.width is.may is.of_range.from (omega (arith, is.of_range.below)) in
      let same = sym (rest_same weights w c is.of_range.width) ∙ sym is.of_range.slot_is in
      in_filter (is_short soc claim place) (all_slots w c weights place) at.0 s (at.1 ∙ ap Some same) is.of_range.short

module _ (f : Slot → ℕ) where
  pub module_joined : (soc : SocValue) (w claim : ℕ) (c : Case) (weights : WeightsValue) (place : ℕ) (a b : Option ℕ) →
      IsLeastOf f (IsOfRanks soc claim c weights place (known_ranks c)) a → IsLeastOf f (IsOfRest soc w claim c weights place) b →
      IsLeastOf f (IsOfModule soc w claim c weights place) (lesser a b)
  module_joined soc w claim c weights place a b x y =
      joined f (IsOfRanks soc claim c weights place (known_ranks c)) (IsOfRest soc w claim c weights place) (IsOfModule soc w claim c weights place) a b x y
      (bus_of soc w claim c weights place) (of_ranks soc w claim c weights place) (of_the_rest soc w claim c weights place)

  -- ---- the least is the smallest

  smallest-in : (xs : List Slot) (x : Slot) → (n : ℕ) × (s : Slot) × (slice_get (x ∷ xs) n ≡ Some s) × (smallest (map f (x ∷ xs)) ≡ f s)
  smallest-in [] x = (0, x, refl, refl)
  smallest-in (y ∷ ys) x =
      let r = smallest-in ys y in
      elim (cases_lt (f x) (smallest (map f (y ∷ ys)))) [
        | inl less ↦ (0, x, refl, omega (arith, less))
        | inr more ↦ (suc r.0, r.1, r.2, omega (arith, more, r.3))
      ]

  pub smallest_is : (xs : List Slot) {n : ℕ} → IsLeast f (λ s. (i : ℕ) × (slice_get xs i ≡ Some s)) n → n ≡ smallest (map f xs)
  smallest_is [] x = absurd cc
  smallest_is (y ∷ ys) {n} x =
      let r = smallest-in ys y in
      omega (arith, smallest-le f (y ∷ ys) x.is.0 x.is.1, x.least r.1 (r.0, r.2), r.3, x.cost_is)

  pub has_some : (xs : List Slot) {n : ℕ} → IsLeast f (λ s. (i : ℕ) × (slice_get xs i ≡ Some s)) n → xs ≡ [] → ⊥
  has_some [] x e = absurd cc
  has_some (y ∷ ys) x e = absurd cc

pub has_none : (xs : List Slot) → ((s : Slot) → ((i : ℕ) × (slice_get xs i ≡ Some s)) → ⊥) → xs ≡ []
has_none [] h = refl
has_none (x ∷ xs) h = absurd (h x (0, refl))

-- ---- what the bits of a case say

module _ {room : CaseRoom} {c : Case} where
  pub may_is : {at : Placing} (rank : ℕ) {b : Bool} → IsCaseOf room c → HasPlace room.ranks.may.items at → at.modules ≡ room.modules →
      at.known ≡ length room.widths.intervals.items → rank < at.known → b ≡ bit_at room.ranks.may.items (bit_place at.modules at.place rank) → c.may at.place rank ≡ b
  may_is {at} rank {b} of has modules known less is =
      let e = is ∙ ap (λ m. bit_at room.ranks.may.items (bit_place m at.place rank)) modules in
      sym (e ∙ of.bits.may at.place rank (omega (arith, has.place, modules)) (omega (arith, less, known, ap length of.intervals)))

  pub may_rest_is : (place : ℕ) {b : Bool} → IsCaseOf room c → place < room.modules → b ≡ bit_at room.ranks.may.items place → c.may_rest place ≡ b
  may_rest_is place of less is = sym (is ∙ of.bits.rest place less)
