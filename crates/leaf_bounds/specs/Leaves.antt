-- Leaves of weights: the buses that a module may be on in a case, what each costs at the weights of the leaf, and when a leaf holds.
use Rattle.std.specs.Prelude.{◌≡◌, ℕ, zero, suc, ◌+◌, ◌-◌, ◌*◌, ◌<◌, ◌≤◌, ◌⊎◌, Bool, true, false, ◌&&◌, not, min, max, MatchOption, Option, None, Some, List, [], ◌++◌, length, map, nat_eq, nat_lt, slice_get, slice_index, if◌then◌else◌}
use Rattle.std.specs.List.{All, sum, sum_by, filter, flat_map, range_with_len}
use Rattle.soc_model.specs.Chips.{SocValue}
use Rattle.plan_model.specs.Plans.{LimitsValue, smallest}
use Rattle.plan_model.specs.Bounds.{sum_below, sum_where, is_of, quotient_up}
use Rattle.plan_model.specs.Certificates.{on, has_tam_at}
use Rattle.proof_facts.specs.Packed.{packed_time, packed_tam_time, self_test_time}
use Rattle.plan_model.specs.Proofs.{ListValue, OfTurns, OfTurnsOn, OfCrowd, OfPower, WeightsValue}
use Rattle.leaf_bounds.specs.Cases.{Case, known_ranks, low_at, high_at, spare, IsEmpty}
use Rattle.leaf_bounds.specs.Lists.{room_of, use_of}

-- ---- the rule

-- a list that speaks of a bus speaks of a known rank
abbrev pub IsKnownList : (known : ℕ) → ListValue → Type 0
IsKnownList known (OfTurns tests) = Unit {0}
IsKnownList known (OfTurnsOn rank tests) = rank < known
IsKnownList known (OfCrowd most tests) = Unit {0}
IsKnownList known (OfPower near) = Unit {0}

-- lists by their places: the proof has each
abbrev pub AreNamedLists : List ListValue → Case → List (ℕ × ℕ) → Type 0
AreNamedLists lists c uses = All (λ (o : ℕ × ℕ). MatchOption (slice_get lists o.0) ⊥ (IsKnownList (known_ranks c))) uses

-- the weights of a leaf: of known ranks, and of lists that the proof has
pub record IsSum (lists : List ListValue) (c : Case) (weights : WeightsValue) : Type 0 where
  pub few : length weights.ranks ≤ known_ranks c
  pub named : AreNamedLists lists c weights.lists

-- ---- the buses that a module may be on

-- a bus of a known rank, or of the rest, with its width in wires and the weight of a cycle on it
pub record Slot : Type 0 where
  pub rank : Option ℕ
  pub width : ℕ
  pub rate : ℕ

-- such a bus
abbrev pub slot : (rank : Option ℕ) → (width rate : ℕ) → Slot
slot rank width rate = record { rank = rank; width = width; rate = rate }

-- the numbers from the first to the last
abbrev pub from_to : (first last : ℕ) → List ℕ
from_to first last = range_with_len first (last + 1 - first)

-- a rank without a weight has weight 0
abbrev pub rank_weight : WeightsValue → ℕ → ℕ
rank_weight weights rank = slice_index weights.ranks rank

-- the bus of a known rank at a width
abbrev pub slot_at : Case → WeightsValue → (rank width : ℕ) → Slot
slot_at c weights rank width = slot (Some rank) width (rank_weight weights rank + weights.wire * (width - low_at c rank))

-- at each width of its interval
abbrev pub slots_at : Case → WeightsValue → (rank : ℕ) → List Slot
slots_at c weights rank = map (slot_at c weights rank) (from_to (max 1 (low_at c rank)) (high_at c rank))

-- a bus of the rest is no wider than the last known one, and than the spare wires
abbrev pub rest_high : (w : ℕ) → Case → (known : ℕ) → ℕ
rest_high w c zero = w
rest_high w c (suc last) = min (high_at c last) (spare w c.intervals)

-- such a bus at a width, and at each width
abbrev pub rest_slot : WeightsValue → (width : ℕ) → Slot
rest_slot weights width = slot None width (weights.wire * width)

abbrev pub rest_slots : (w : ℕ) → Case → WeightsValue → List Slot
rest_slots w c weights = map (rest_slot weights) (from_to 1 (rest_high w c (known_ranks c)))

-- all buses that the module at a place may be on
abbrev pub all_slots : (w : ℕ) → Case → WeightsValue → (place : ℕ) → List Slot
all_slots w c weights place =
    flat_map (λ rank. if c.may place rank then slots_at c weights rank else []) (range_with_len 0 (known_ranks c))
    ++ (if c.may_rest place then rest_slots w c weights else [])

-- on the bus its tests take fewer cycles than claimed
abbrev pub is_short : SocValue → (claim place : ℕ) → Slot → Bool
is_short soc claim place s = nat_lt (packed_tam_time soc place s.width + self_test_time soc place) claim

-- the buses that count
abbrev pub slots_of : SocValue → (w claim : ℕ) → Case → WeightsValue → (place : ℕ) → List Slot
slots_of soc w claim c weights place = filter (is_short soc claim place) (all_slots w c weights place)

-- ---- what a module costs

-- the bus is the one of that rank; which rank a bus of the rest has isn't known
abbrev pub is_rank : Option ℕ → ℕ → Bool
is_rank None rank = false
is_rank (Some own) rank = nat_eq own rank

-- what the tests of a module over the wires use of a list, on a bus
abbrev pub module_use : SocValue → LimitsValue → (place : ℕ) → Slot → ListValue → ℕ
module_use soc limits place s list =
    sum_where (λ l. l.test.tam && is_of place l) (λ l. use_of soc limits (is_rank s.rank) list (packed_time l.core l.test s.width) l) soc

-- what all self tests use of it
abbrev pub self_use : SocValue → LimitsValue → ListValue → ℕ
self_use soc limits list = sum_where (λ l. not l.test.tam) (λ l. use_of soc limits (λ rank. false) list l.test.patterns l) soc

-- over the lists that the leaf weighs, weight times `f`
abbrev pub weighed : List ListValue → WeightsValue → (ListValue → ℕ) → ℕ
weighed lists weights f = sum_by (λ (o : ℕ × ℕ). o.1 * on (slice_get lists o.0) f) weights.lists

-- its time at the rate of the bus, and what it uses of the lists at their weights
abbrev pub cost : SocValue → LimitsValue → List ListValue → WeightsValue → (place : ℕ) → Slot → ℕ
cost soc limits lists weights place s = s.rate * packed_tam_time soc place s.width + weighed lists weights (module_use soc limits place s)

-- the least cost of the module at a place; none where it has no test over the wires
abbrev pub least_cost : SocValue → LimitsValue → List ListValue → (claim : ℕ) → Case → WeightsValue → (place : ℕ) → ℕ
least_cost soc limits lists claim c weights place =
    if has_tam_at soc place then smallest (map (cost soc limits lists weights place)
    (slots_of soc limits.wires claim c weights place)) else 0

-- ---- what a leaf shows

-- all modules at their least cost, and the self tests
unfoldable pub cost_of_all : SocValue → LimitsValue → List ListValue → (claim : ℕ) → Case → WeightsValue → ℕ
cost_of_all soc limits lists claim c weights =
    sum_below (least_cost soc limits lists claim c weights) (length soc.modules) + weighed lists weights (self_use soc limits)

-- the weight of all that there is in one cycle
unfoldable pub worth_of_cycle : (w : ℕ) → List ListValue → Case → WeightsValue → ℕ
worth_of_cycle w lists c weights = sum weights.ranks + weights.wire * spare w c.intervals + weighed lists weights room_of

-- a module with a test over the wires that has no bus to be on
pub record HasNoBus (soc : SocValue) (w claim : ℕ) (c : Case) (weights : WeightsValue) : Type 0 where
  pub place : ℕ
  pub tam : has_tam_at soc place ≡ true
  pub none : slots_of soc w claim c weights place ≡ []

-- what all modules cost at least is more than `claim - 1` cycles are worth
abbrev pub CostTooMuch : SocValue → LimitsValue → List ListValue → (claim : ℕ) → Case → WeightsValue → Type 0
CostTooMuch soc limits lists claim c weights =
    let worth = worth_of_cycle limits.wires lists c weights in
    worth * claim < cost_of_all soc limits lists claim c weights + worth

-- then the case has no plan of fewer than the claimed cycles
abbrev pub LeafHolds : SocValue → LimitsValue → List ListValue → (claim : ℕ) → Case → WeightsValue → Type 0
LeafHolds soc limits lists claim c weights =
    IsEmpty limits.wires c ⊎ (HasNoBus soc limits.wires claim c weights ⊎ CostTooMuch soc limits lists claim c weights)

-- the cycles that a leaf shows which doesn't hold
abbrev pub cycles_shown : (cost worth : ℕ) → ℕ
cycles_shown cost worth = if nat_eq worth 0 then 0 else quotient_up cost worth

unfoldable pub leaf_shows : SocValue → LimitsValue → List ListValue → (claim : ℕ) → Case → WeightsValue → ℕ
leaf_shows soc limits lists claim c weights =
    cycles_shown (cost_of_all soc limits lists claim c weights) (worth_of_cycle limits.wires lists c weights)
