-- Leaves that price modules: which fit together on a bus, what they are worth there, and when such a leaf holds.
use Rattle.std.specs.Prelude.{◌≡◌, ℕ, ◌+◌, ◌-◌, ◌*◌, ◌/◌, ◌^◌, ◌<◌, ◌≤◌, ◌⊎◌, Bool, ◌&&◌, ◌||◌, Option, None, Some, List, [], length, map, nat_lt, slice_index, if◌then◌else◌}
use Rattle.std.specs.List.{All, sum_by, list_any}
use Rattle.soc_model.specs.Chips.{SocValue}
use Rattle.soc_model.specs.Lookups.{module_place}
use Rattle.soc_model.specs.SoundChips.{AllDiffer}
use Rattle.plan_model.specs.Plans.{LimitsValue}
use Rattle.plan_model.specs.Bounds.{sum_below}
use Rattle.plan_model.specs.Certificates.{on, HasTamTest}
use Rattle.proof_facts.specs.Packed.{packed_tam_time}
use Rattle.pack_leaves.specs.Greatest.{IsGreatest}
use Rattle.pack_leaves.specs.Knapsacks.{IsLoad, load_worth}
use Rattle.plan_model.specs.Proofs.{ListValue, WeightsValue, PricingValue}
use Rattle.leaf_bounds.specs.Cases.{Case, Interval, known_ranks, low_at, high_at, least_wires, IsEmpty}
use Rattle.leaf_bounds.specs.Lists.{room_of}
use Rattle.leaf_bounds.specs.Leaves.{Slot, slot, rest_high, is_short, module_use, self_use, weighed, HasNoBus, AreNamedLists}

-- ---- the rule

-- the cells of a bus: those that the cycles below the claim fill, none where nothing is claimed
abbrev pub cells_of : (claim : ℕ) → PricingValue → ℕ
cells_of claim pricing = (claim - 1) / pricing.grain

-- how many widths there are in an interval, and in those of all known ranks, with those of a bus of the rest
abbrev pub width_count : Interval → ℕ
width_count i = i.high + 1 - i.low

abbrev pub pair_count : (w : ℕ) → Case → ℕ
pair_count w c = sum_by width_count c.intervals + rest_high w c (known_ranks c)

-- what is to be worked out: for each rank with a width each price over all cells and lists, and then all wires
abbrev pub work_in : (w claim : ℕ) → Case → PricingValue → ℕ
work_in w claim c pricing = pair_count w c * (length pricing.prices * (cells_of claim pricing + 1 + length pricing.lists) + w)

-- whether the case is empty
abbrev pub is_empty_case : (w : ℕ) → Case → Bool
is_empty_case w c = nat_lt w (least_wires c.intervals) || list_any (λ (i : Interval). nat_lt i.high i.low) c.intervals

-- in an empty case nothing is to be worked out
abbrev pub pack_work : (w claim : ℕ) → Case → PricingValue → ℕ
pack_work w claim c pricing = if is_empty_case w c then 0 else work_in w claim c pricing

-- the most cells of a bus, and the most work of all such leaves of a text
abbrev pub CELLS_MOST : ℕ
CELLS_MOST = 4096

abbrev pub WORK_MOST : ℕ
WORK_MOST = 2 ^ 34

-- the numbers of priced modules
abbrev pub numbers_priced : List (ℕ × ℕ) → List ℕ
numbers_priced prices = map (λ (p : ℕ × ℕ). p.0) prices

-- modules with a test over the wires, none named twice
pub record ArePricedOnce (soc : SocValue) (prices : List (ℕ × ℕ)) : Type 0 where
  pub wired : All (HasTamTest soc) (numbers_priced prices)
  pub differ : AllDiffer (numbers_priced prices)

-- A cell has a cycle; such modules, lists as of a sum, and no more cells and no more work, with the work `done` of the leaves before
-- it, than there may be.
pub record IsPack (soc : SocValue) (w : ℕ) (lists : List ListValue) (claim done : ℕ) (c : Case) (pricing : PricingValue) : Type 0 where
  pub some : 1 ≤ pricing.grain
  pub modules : ArePricedOnce soc pricing.prices
  pub named : AreNamedLists lists c pricing.lists
  pub few : cells_of claim pricing ≤ CELLS_MOST
  pub little : done + pack_work w claim c pricing ≤ WORK_MOST

-- ---- the priced modules, by their places among the prices

-- the place in the chip, and the price
abbrev pub place_called : SocValue → (number : ℕ) → ℕ
place_called soc number = on (module_place soc number) (λ place. place)

abbrev pub priced_place : SocValue → PricingValue → (item : ℕ) → ℕ
priced_place soc pricing item = place_called soc (slice_index (numbers_priced pricing.prices) item)

abbrev pub price_at : PricingValue → (item : ℕ) → ℕ
price_at pricing item = slice_index (map (λ (p : ℕ × ℕ). p.1) pricing.prices) item

-- the weights of the lists alone
abbrev pub list_weights : PricingValue → WeightsValue
list_weights pricing = record { wire = 0; ranks = []; lists = pricing.lists }

-- a rank that the case speaks of; any other one is of the rest
abbrev pub bus_rank : (known rank : ℕ) → Option ℕ
bus_rank known rank = if nat_lt rank known then Some rank else None

-- the bus of a rank at a width
abbrev pub bus_at : Case → (rank width : ℕ) → Slot
bus_at c rank width = slot (bus_rank (known_ranks c) rank) width 0

-- whether the module at a place may be on the bus of a rank
abbrev pub may_be : Case → (place rank : ℕ) → Bool
may_be c place rank = if nat_lt rank (known_ranks c) then c.may place rank else c.may_rest place

-- whether it has a slot there: the bus has a wire, and its tests take fewer cycles than claimed
abbrev pub has_slot : SocValue → (claim : ℕ) → Case → (place rank width : ℕ) → Bool
has_slot soc claim c place rank width = may_be c place rank && (nat_lt 0 width && is_short soc claim place (bus_at c rank width))

-- the whole cells of its time
abbrev pub cells_taken : SocValue → PricingValue → (place width : ℕ) → ℕ
cells_taken soc pricing place width = packed_tam_time soc place width / pricing.grain

-- its price less what it uses of the lists at their weights, 0 where that is more
abbrev pub net_worth : SocValue → LimitsValue → List ListValue → Case → PricingValue → (item rank width : ℕ) → ℕ
net_worth soc limits lists c pricing item rank width =
    price_at pricing item
    - weighed lists (list_weights pricing) (module_use soc limits (priced_place soc pricing item) (bus_at c rank width))

-- ---- what fits on all buses

-- Priced modules that fit on the bus of a rank at a width: each has a slot there, and they take no more than its cells. A module
-- without a price would be worth nothing there.
abbrev pub IsBusLoad : SocValue → (claim : ℕ) → Case → PricingValue → (rank width : ℕ) → (ℕ → Bool) → Type 0
IsBusLoad soc claim c pricing rank width taken =
    IsLoad (cells_of claim pricing) (length pricing.prices) (λ item. has_slot soc claim c (priced_place soc pricing item) rank width)
    (λ item. cells_taken soc pricing (priced_place soc pricing item) width) taken

-- what they are worth
abbrev pub bus_worth : SocValue → LimitsValue → List ListValue → Case → PricingValue → (rank width : ℕ) → (ℕ → Bool) → ℕ
bus_worth soc limits lists c pricing rank width taken =
    load_worth (length pricing.prices) (λ item. net_worth soc limits lists c pricing item rank width) taken

-- how many buses, the width of each, and what is taken on it
pub record Filling : Type 0 where
  pub buses : ℕ
  pub widths : (rank : ℕ) → ℕ
  pub taken : (rank item : ℕ) → Bool

-- Each known rank has a width of its interval; of further buses, which may be any number, none is wider than a bus of the rest
-- may be; all are on the wires together, and what is taken on each fits there. On a bus without a wire nothing does.
pub record IsFilling (soc : SocValue) (w claim : ℕ) (c : Case) (pricing : PricingValue) (x : Filling) : Type 0 where
  pub known : known_ranks c ≤ x.buses
  pub low : (rank : ℕ) → rank < known_ranks c → low_at c rank ≤ x.widths rank
  pub high : (rank : ℕ) → rank < known_ranks c → x.widths rank ≤ high_at c rank
  pub rest : (rank : ℕ) → known_ranks c ≤ rank → rank < x.buses → x.widths rank ≤ rest_high w c (known_ranks c)
  pub fits : sum_below x.widths x.buses ≤ w
  pub loads : (rank : ℕ) → rank < x.buses → IsBusLoad soc claim c pricing rank (x.widths rank) (x.taken rank)

-- all buses together
abbrev pub filling_worth : SocValue → LimitsValue → List ListValue → Case → PricingValue → Filling → ℕ
filling_worth soc limits lists c pricing x =
    sum_below (λ rank. bus_worth soc limits lists c pricing rank (x.widths rank) (x.taken rank)) x.buses

-- the greatest worth of all buses
abbrev pub IsMostFilled : SocValue → LimitsValue → List ListValue → (claim : ℕ) → Case → PricingValue → ℕ → Type 0
IsMostFilled soc limits lists claim c pricing n =
    IsGreatest (IsFilling soc limits.wires claim c pricing) (filling_worth soc limits lists c pricing) n

-- ---- when the leaf holds

-- all prices
abbrev pub price_sum : PricingValue → ℕ
price_sum pricing = sum_by (λ (p : ℕ × ℕ). p.1) pricing.prices

-- prices and self tests are more than all buses and the lists are worth in `claim - 1` cycles
pub record PaysTooMuch (soc : SocValue) (limits : LimitsValue) (lists : List ListValue) (claim : ℕ) (c : Case)
    (pricing : PricingValue) : Type 0 where
  pub most : ℕ
  pub greatest : IsMostFilled soc limits lists claim c pricing most
  pub more : most + weighed lists (list_weights pricing) room_of * claim
      < price_sum pricing + weighed lists (list_weights pricing) (self_use soc limits) + weighed lists (list_weights pricing) room_of

-- then the case has no plan of fewer than the claimed cycles
abbrev pub PackHolds : SocValue → LimitsValue → List ListValue → (claim : ℕ) → Case → PricingValue → Type 0
PackHolds soc limits lists claim c pricing =
    IsEmpty limits.wires c ⊎ (HasNoBus soc limits.wires claim c (list_weights pricing) ⊎ PaysTooMuch soc limits lists claim c pricing)

-- ---- the rule, module by module

-- the price at a place is that of a module with a test over the wires, which isn't named before it
pub record IsNewPrice (soc : SocValue) (prices : List (ℕ × ℕ)) (at : ℕ) : Type 0 where
  pub wired : HasTamTest soc (slice_index (numbers_priced prices) at)
  pub new : (q : ℕ) → q < at → slice_index (numbers_priced prices) q ≡ slice_index (numbers_priced prices) at → ⊥

-- the places are those of the first priced modules
abbrev pub ArePlaces : SocValue → List (ℕ × ℕ) → (count : ℕ) → (places : List ℕ) → Type 0
ArePlaces soc prices count places =
    (k : ℕ) → k < count → slice_index places k ≡ place_called soc (slice_index (numbers_priced prices) k)
