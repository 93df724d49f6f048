-- The most that modules are worth on the buses of a case, bus by bus.
use Rattle.std.specs.Prelude.{◌≡◌, ◌≢◌, ℕ, ◌+◌, ◌-◌, ◌<◌, ◌≤◌, true, Some, List, length, slice_get, slice_index}
use Rattle.std.specs.List.{All}
use Rattle.pack_leaves.specs.Knapsacks.{most_worth}
use Rattle.pack_leaves.specs.Sharings.{IsMostShared}
use Rattle.plan_model.specs.Proofs.{PricingValue, WeightsValue}
use Rattle.plan_model.specs.Sayable.{ArePrices}
use Rattle.leaf_bounds.specs.declared.basis.Basis.{Basis}
use Rattle.leaf_bounds.specs.declared.case.CaseRoom.{CaseRoom}
use Rattle.leaf_bounds.specs.declared.leaf_costs.BesideUse.{BesideUse}
use Rattle.leaf_bounds.specs.declared.leaf_costs.Weighed.{Weighed}
use Rattle.leaf_bounds.specs.declared.pack_room.BusRoom.{BusRoom}
use Rattle.leaf_bounds.specs.declared.pack_room.KeptWorths.{KeptWorths}
use Rattle.leaf_bounds.specs.declared.pack_room.PackRoom.{PackRoom}
use Rattle.leaf_bounds.specs.Cases.{Case, known_ranks, low_at, high_at, spare}
use Rattle.leaf_bounds.specs.CaseRooms.{HasCase, IsCaseOf}
use Rattle.leaf_bounds.specs.Leaves.{module_use, rest_high, weighed}
use Rattle.leaf_bounds.specs.Bases.{IsBasis, AllKept, chip_of, limits_of, lists_of, claim_of}
use Rattle.leaf_bounds.specs.LeafCosts.{IsWeighed}
use Rattle.leaf_bounds.specs.LeafAnswers.{IsCaseFor}
use Rattle.leaf_bounds.specs.PackLeaves.{ArePlaces, ArePricedOnce, bus_at, cells_of, cells_taken, has_slot, list_weights, may_be, net_worth, priced_place, CELLS_MOST}

-- ---- one bus

-- what the module at a place is worth at a price
abbrev pub net_at : Basis → Case → PricingValue → (place price rank width : ℕ) → ℕ
net_at g c pricing place price rank width =
    price - weighed (lists_of g) (list_weights pricing) (module_use (chip_of g) (limits_of g) place (bus_at c rank width))

-- the most that the first `count` priced modules are worth in some cells of a bus
abbrev pub most_of : Basis → Case → PricingValue → (rank width count cells : ℕ) → ℕ
most_of g c pricing rank width count cells =
    most_worth (λ item. has_slot (chip_of g) (claim_of g) c (priced_place (chip_of g) pricing item) rank width)
    (λ item. cells_taken (chip_of g) pricing (priced_place (chip_of g) pricing item) width)
    (λ item. net_worth (chip_of g) (limits_of g) (lists_of g) c pricing item rank width) count cells

-- all of them in all cells
abbrev pub bus_most : Basis → Case → PricingValue → (rank width : ℕ) → ℕ
bus_most g c pricing rank width = most_of g c pricing rank width (length pricing.prices) (cells_of (claim_of g) pricing)

-- ---- like buses

-- Of two buses, each by its rank and width, the module at a place has a slot on both or on none. Where it has, it takes as many cells on
-- the one as on the other, and is worth as much at a price.
pub record IsLikeItem (g : Basis) (c : Case) (pricing : PricingValue) (place price rank width other before : ℕ) : Type 0 where
  pub slot : has_slot (chip_of g) (claim_of g) c place rank width ≡ has_slot (chip_of g) (claim_of g) c place other before
  pub cells : has_slot (chip_of g) (claim_of g) c place rank width ≡ true →
      cells_taken (chip_of g) pricing place width ≡ cells_taken (chip_of g) pricing place before
  pub net : has_slot (chip_of g) (claim_of g) c place rank width ≡ true →
      net_at g c pricing place price rank width ≡ net_at g c pricing place price other before

-- no list speaks of either rank, and each of the first modules by their places may be on both or on none
pub record IsLikeRank (case : CaseRoom) (room : Weighed) (places : List ℕ) (count rank other : ℕ) : Type 0 where
  pub none : All (λ (b : BesideUse). b.rank ≢ rank) room.beside.items
  pub none_other : All (λ (b : BesideUse). b.rank ≢ other) room.beside.items
  pub may : (c : Case) → IsCaseOf case c → (item : ℕ) → item < count →
      may_be c (slice_index places item) rank ≡ may_be c (slice_index places item) other

-- a bus is worth so much
abbrev pub IsWorth : Basis → CaseRoom → PricingValue → (rank width worth : ℕ) → Type 0
IsWorth g case pricing rank width worth = (c : Case) → IsCaseOf case c → worth ≡ bus_most g c pricing rank width

-- what is kept of a width
abbrev pub IsKeptAt : KeptWorths → (width worth : ℕ) → Type 0
IsKeptAt kept width worth = slice_get kept.worths.items width ≡ Some (Some worth)

-- all that is kept is so
abbrev pub AreKept : Basis → CaseRoom → PricingValue → KeptWorths → Type 0
AreKept g case pricing kept = (width worth : ℕ) → IsKeptAt kept width worth → IsWorth g case pricing kept.rank width worth

-- ---- all buses

-- a bus of the rest by its width, a known rank by its wires beyond the least
abbrev pub rest_worth : Basis → Case → PricingValue → (width : ℕ) → ℕ
rest_worth g c pricing width = bus_most g c pricing (known_ranks c) width

abbrev pub rank_worth : Basis → Case → PricingValue → (rank more : ℕ) → ℕ
rank_worth g c pricing rank more = bus_most g c pricing rank (low_at c rank + more)

-- the wires that a rank may have beyond its least
abbrev pub span_at : Case → (rank : ℕ) → ℕ
span_at c rank = high_at c rank - low_at c rank

-- a row says for each number of spare wires the most by the rest and the first `known` ranks
abbrev pub IsWiresRow : Basis → Case → PricingValue → (known : ℕ) → (row : List ℕ) → Type 0
IsWiresRow g c pricing known row =
    (x : ℕ) → x < spare (limits_of g).wires c.intervals + 1 →
    IsMostShared (rest_worth g c pricing) (rank_worth g c pricing) (span_at c) (rest_high (limits_of g).wires c (known_ranks c)) known x
    (slice_index row x)

-- ---- what is at hand

-- a case of the chip, weights made ready, and the cycles of a cell
pub record IsPackSetting (g : Basis) (case : CaseRoom) (room : Weighed) (grain : ℕ) : Type 0 where
  pub basis : IsBasis g
  pub kept : AllKept g
  pub case_is : HasCase case
  pub of : IsCaseFor g case
  pub known : (c : Case) × IsCaseOf case c
  pub some : 1 ≤ grain
  pub weighed : (weights : WeightsValue) × IsWeighed g weights room

-- the setting of a leaf that keeps its rule
pub record IsPackLeaf (g : Basis) (case : CaseRoom) (room : Weighed) (pricing : PricingValue) : Type 0 where
  pub setting : IsPackSetting g case room pricing.grain
  pub prices : ArePrices pricing
  pub once : ArePricedOnce (chip_of g) pricing.prices
  pub few : cells_of (claim_of g) pricing ≤ CELLS_MOST
  pub ready : IsWeighed g (list_weights pricing) room

-- room for the cells of a bus, with the places of the priced modules
pub record IsBusRoom (g : Basis) (pricing : PricingValue) (room : BusRoom) : Type 0 where
  pub cells : length room.cells.items ≡ CELLS_MOST + 1
  pub long : length pricing.prices ≤ length room.places.items
  pub places : ArePlaces (chip_of g) pricing.prices (length pricing.prices) room.places.items

pub record IsBusesRoom (g : Basis) (pricing : PricingValue) (room : PackRoom) : Type 0 where
  pub bus : IsBusRoom g pricing room.bus
  pub wires : length room.wires.items ≡ (limits_of g).wires + 1
  pub worth : length room.worth.items ≡ (limits_of g).wires + 1
  pub kept : length room.kept.worths.items ≡ (limits_of g).wires + 1
