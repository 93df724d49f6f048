-- The least cost of a module: its buses by ranges of widths, and what the least cost over some buses is.
use Rattle.std.specs.Prelude.{◌≡◌, ◌≢◌, ℕ, ◌+◌, ◌-◌, ◌*◌, ◌<◌, ◌≤◌, ◌⊎◌, true, false, max, min, Option, None, Some, List, [], slice_get, MatchOption}
use Rattle.std.specs.List.{All}
use Rattle.soc_model.specs.Chips.{SocValue}
use Rattle.plan_model.specs.Bounds.{sum_below}
use Rattle.plan_model.specs.Certificates.{has_tam_at}
use Rattle.leaf_bounds.specs.declared.basis.Basis.{Basis}
use Rattle.leaf_bounds.specs.declared.leaf.LeafAnswer.{LeafAnswer}
use Rattle.leaf_bounds.specs.declared.leaf.LeafAnswer.TheVariants.{Broken, Holds, Shows}
use Rattle.leaf_bounds.specs.declared.leaf_costs.BesideUse.{BesideUse}
use Rattle.leaf_bounds.specs.declared.leaf_costs.Weighed.{Weighed}
use Rattle.leaf_bounds.specs.declared.leaf_slots.RanksTried.{RanksTried}
use Rattle.leaf_bounds.specs.declared.leaf_slots.WidthRange.{WidthRange}
use Rattle.plan_model.specs.Proofs.{ListValue, WeightsValue}
use Rattle.leaf_bounds.specs.Cases.{Case, known_ranks, low_at, high_at}
use Rattle.leaf_bounds.specs.Leaves.{Slot, slot, rank_weight, rest_high, slots_of, is_short, cost, least_cost, HasNoBus, CostTooMuch, leaf_shows, cycles_shown, IsKnownList}
use Rattle.leaf_bounds.specs.Bases.{chip_of, limits_of, lists_of, claim_of}

-- ---- buses by ranges of widths

-- the bus of a range at a width
abbrev pub range_slot : WidthRange → ℕ → Slot
range_slot r width = slot r.rank width (r.base + r.wire * (width - r.low))

-- the range of a known rank, and that of the rest
abbrev pub rank_range : Case → WeightsValue → ℕ → WidthRange
rank_range c weights rank = record {
  rank = Some rank;
  first = max 1 (low_at c rank);
  high = high_at c rank;
  low = low_at c rank;
  base = rank_weight weights rank;
  wire = weights.wire;
}

abbrev pub rest_range : (w : ℕ) → Case → WeightsValue → WidthRange
rest_range w c weights = record {
  rank = None;
  first = 1;
  high = rest_high w c (known_ranks c);
  low = 0;
  base = 0;
  wire = weights.wire;
}

-- a bus of the range that counts, on a width below `end`
pub record IsOfRange (soc : SocValue) (claim place : ℕ) (r : WidthRange) (end : ℕ) (s : Slot) : Type 0 where
  pub width : ℕ
  pub from : r.first ≤ width
  pub below : width < end
  pub slot_is : s ≡ range_slot r width
  pub short : is_short soc claim place s ≡ true

-- a bus of a rank that counts, where the module may be on the rank
pub record IsOfRank (soc : SocValue) (claim : ℕ) (c : Case) (weights : WeightsValue) (place rank : ℕ) (s : Slot) : Type 0 where
  pub may : c.may place rank ≡ true
  pub of_range : IsOfRange soc claim place (rank_range c weights rank) (high_at c rank + 1) s

-- of one of the first ranks
pub record IsOfRanks (soc : SocValue) (claim : ℕ) (c : Case) (weights : WeightsValue) (place end : ℕ) (s : Slot) : Type 0 where
  pub rank : ℕ
  pub below : rank < end
  pub of_rank : IsOfRank soc claim c weights place rank s

-- a bus of the rest that counts, where the module may be on the rest
pub record IsOfRest (soc : SocValue) (w claim : ℕ) (c : Case) (weights : WeightsValue) (place : ℕ) (s : Slot) : Type 0 where
  pub may : c.may_rest place ≡ true
  pub of_range : IsOfRange soc claim place (rest_range w c weights) (rest_high w c (known_ranks c) + 1) s

-- a bus that counts
abbrev pub IsOfModule : SocValue → (w claim : ℕ) → Case → WeightsValue → (place : ℕ) → Slot → Type 0
IsOfModule soc w claim c weights place s = (n : ℕ) × (slice_get (slots_of soc w claim c weights place) n ≡ Some s)

-- ---- the least cost

-- a bus costs `n`, and none costs less
pub record IsLeast (f : Slot → ℕ) (Is : Slot → Type 0) (n : ℕ) : Type 0 where
  pub bus : Slot
  pub is : Is bus
  pub cost_is : f bus ≡ n
  pub least : (s : Slot) → Is s → n ≤ f s

-- the smallest of the costs of these buses: none where there is no bus
abbrev pub IsLeastOf : (f : Slot → ℕ) → (Is : Slot → Type 0) → Option ℕ → Type 0
IsLeastOf f Is None = (s : Slot) → Is s → ⊥
IsLeastOf f Is (Some n) = IsLeast f Is n

-- the cost of one bus, where it counts
abbrev pub IsCostOf : (f : Slot → ℕ) → SocValue → (claim place : ℕ) → Slot → Option ℕ → Type 0
IsCostOf f soc claim place s None = is_short soc claim place s ≡ false
IsCostOf f soc claim place s (Some n) = (is_short soc claim place s ≡ true) × (f s ≡ n)

-- the lesser of two, where they are there
abbrev pub lesser : Option ℕ → Option ℕ → Option ℕ
lesser None o = o
lesser (Some m) None = Some m
lesser (Some m) (Some n) = Some (min m n)

-- the lesser of a cost and the least one of these buses
pub record IsLesserOf (f : Slot → ℕ) (Is : Slot → Type 0) (least lesser_is : Option ℕ) : Type 0 where
  pub own : Option ℕ
  pub own_is : IsLeastOf f Is own
  pub is : lesser_is ≡ lesser least own

-- the lesser of a cost and that of one bus
pub record IsLesserOfOne (f : Slot → ℕ) (soc : SocValue) (claim place : ℕ) (s : Slot) (least lesser_is : Option ℕ) : Type 0 where
  pub own : Option ℕ
  pub own_is : IsCostOf f soc claim place s own
  pub is : lesser_is ≡ lesser least own

-- ---- ranks one by one

-- no bus of the one range is wider than those of the other or costs less, but for lists that speak of the other's rank
pub record IsNoBetter (range earlier : WidthRange) : Type 0 where
  pub low : range.low ≡ earlier.low
  pub high : range.high ≤ earlier.high
  pub base : earlier.base ≤ range.base

-- what the module at a place costs at these weights
abbrev pub costs_at : Basis → WeightsValue → (place : ℕ) → Slot → ℕ
costs_at g weights place = cost (chip_of g) (limits_of g) (lists_of g) weights place

-- a range is that of a rank before `end` that the module may be on, and of which no list speaks that is weighed
pub record IsTried (c : Case) (weights : WeightsValue) (room : Weighed) (place end : ℕ) (range : WidthRange) : Type 0 where
  pub rank : ℕ
  pub below : rank < end
  pub may : c.may place rank ≡ true
  pub no_list : All (λ (b : BesideUse). b.rank ≢ rank) room.beside.items
  pub range_is : range ≡ rank_range c weights rank

-- what was found on the ranks before `end`
pub record AreTried (g : Basis) (c : Case) (weights : WeightsValue) (room : Weighed) (place end : ℕ) (tried : RanksTried) : Type 0 where
  pub least : IsLeastOf (costs_at g weights place) (IsOfRanks (chip_of g) (claim_of g) c weights place end) tried.least
  pub last : (range : WidthRange) → tried.last ≡ Some range → IsTried c weights room place end range

-- the least cost of the module at a place
abbrev pub least_at : Basis → Case → WeightsValue → (place : ℕ) → ℕ
least_at g c weights = least_cost (chip_of g) (limits_of g) (lists_of g) (claim_of g) c weights

-- a module with a test over the wires has no bus
abbrev pub HasNoBusIn : Basis → Case → WeightsValue → Type 0
HasNoBusIn g c weights = HasNoBus (chip_of g) (limits_of g).wires (claim_of g) c weights

-- the module has a bus, where it has a test over the wires
abbrev pub HasBus : Basis → Case → WeightsValue → (place : ℕ) → Type 0
HasBus g c weights place =
    has_tam_at (chip_of g) place ≡ true → slots_of (chip_of g) (limits_of g).wires (claim_of g) c weights place ≡ [] → ⊥

-- what is said of one module: that it has no bus, or its least cost
abbrev pub IsModuleCost : Basis → Case → WeightsValue → (place : ℕ) → Option ℕ → Type 0
IsModuleCost g c weights place None = HasNoBusIn g c weights
IsModuleCost g c weights place (Some n) = (n ≡ least_at g c weights place) × HasBus g c weights place

-- ---- what follows

-- the places of a leaf's lists are those of lists that speak of known ranks
abbrev pub IsNamed : List ListValue → (known : ℕ) → ℕ × ℕ → Type 0
IsNamed lists known o = MatchOption (slice_get lists o.0) ⊥ (IsKnownList known)

-- the leaf doesn't hold at this cost and worth, and shows `shown` cycles
pub record IsTooLittle (cost worth claim shown : ℕ) : Type 0 where
  pub less : worth * claim < cost + worth → ⊥
  pub shown_is : shown ≡ cycles_shown cost worth

-- what a cost and the worth of a cycle make of a claim
abbrev pub IsConclusion : (cost worth claim : ℕ) → LeafAnswer → Type 0
IsConclusion cost worth claim Broken = ⊥
IsConclusion cost worth claim Holds = worth * claim < cost + worth
IsConclusion cost worth claim (Shows shown) = IsTooLittle cost worth claim shown

-- what the modules at the first `count` places cost at least, together, and each has a bus; or some module has none
abbrev pub IsSumOfLeast : Basis → Case → WeightsValue → (count : ℕ) → Option ℕ → Type 0
IsSumOfLeast g c weights count None = HasNoBusIn g c weights
IsSumOfLeast g c weights count (Some n) = (n ≡ sum_below (least_at g c weights) count) × ((p : ℕ) → p < count → HasBus g c weights p)

-- what is found at a leaf that keeps its rule, in a case that isn't empty
abbrev pub HoldsWeighed : Basis → Case → WeightsValue → Type 0
HoldsWeighed g c weights = HasNoBusIn g c weights ⊎ CostTooMuch (chip_of g) (limits_of g) (lists_of g) (claim_of g) c weights

abbrev pub IsWeighedAnswer : Basis → Case → WeightsValue → LeafAnswer → Type 0
IsWeighedAnswer g c weights Broken = ⊥
IsWeighedAnswer g c weights Holds = HoldsWeighed g c weights
IsWeighedAnswer g c weights (Shows shown) =
    (HoldsWeighed g c weights → ⊥) × (shown ≡ leaf_shows (chip_of g) (limits_of g) (lists_of g) (claim_of g) c weights)
