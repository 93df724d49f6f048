-- What a leaf weighs, made ready for sums over tests.
use Rattle.std.specs.Prelude.{◌≡◌, ℕ, ◌+◌, ◌*◌, ◌^◌, ◌<◌, ◌≤◌, ◌&&◌, Bool, true, false, not, Option, Some, List, [], length, map, slice_get, slice_index, vec_capacity, if◌then◌else◌}
use Rattle.std.specs.List.{All, range_with_len, sum_by}
use Rattle.soc_model.specs.Chips.{SocValue, LiveTest, live_tests}
use Rattle.plan_model.specs.Plans.{LimitsValue}
use Rattle.plan_model.specs.Certificates.{on}
use Rattle.proof_facts.specs.Packed.{packed_time}
use Rattle.leaf_bounds.specs.declared.leaf_costs.BesideUse.{BesideUse}
use Rattle.leaf_bounds.specs.declared.leaf_costs.Weighed.{Weighed}
use Rattle.leaf_bounds.specs.declared.list_table.ListTable.{ListTable}
use Rattle.leaf_bounds.specs.declared.list_table.Role.{Role}
use Rattle.leaf_bounds.specs.declared.list_table.Role.TheVariants.{Out, In, Beside, Drawing}
use Rattle.leaf_bounds.specs.declared.basis.Basis.{Basis}
use Rattle.plan_model.specs.Sayable.{AreWeights}
use Rattle.plan_model.specs.Proofs.{ListValue, WeightsValue}
use Rattle.leaf_bounds.specs.Lists.{IsNear, power_use, room_of, use_of}
use Rattle.leaf_bounds.specs.ListTables.{role_at}
use Rattle.leaf_bounds.specs.Leaves.{is_rank, weighed}
use Rattle.leaf_bounds.specs.Bases.{chip_of, limits_of, lists_of}

-- a module at its rate and with all lists costs no more: 2^40 is above every rate, 2^24 lists weigh less than 10^9 each, and no test takes
-- more than 10^18 cycles
abbrev pub LEAF_COST_MOST : ℕ
LEAF_COST_MOST = (2 ^ 40 + 2 ^ 24 * 10 ^ 9) * 10 ^ 18

-- all lists cost no more
abbrev pub USES_COST_MOST : ℕ
USES_COST_MOST = 2 ^ 24 * 10 ^ 9 * 10 ^ 18

-- the leaf weighs lists that the proof has, no more than may be, none more than a text may
pub record AreUses (g : Basis) (weights : WeightsValue) : Type 0 where
  pub named : All (λ (o : ℕ × ℕ). o.0 < length (lists_of g)) weights.lists
  pub small : AreWeights weights
  pub few : length weights.lists ≤ 2 ^ 24

-- the room has space for the leaves of the proof
pub record HasSpaceFor (g : Basis) (room : Weighed) : Type 0 where
  pub long : length room.sums.items ≡ length (live_tests (chip_of g))
  pub totals : length room.totals.items ≡ length (lists_of g)
  pub beside : length (lists_of g) ≤ vec_capacity room.beside
  pub power : length (lists_of g) ≤ vec_capacity room.power

-- what places and weights weigh together
abbrev pub all_weights : List (ℕ × ℕ) → ℕ
all_weights os = sum_by (λ (o : ℕ × ℕ). o.1) os

-- the first `count` places, each with its weight
abbrev pub by_places : (totals : List ℕ) → (count : ℕ) → List (ℕ × ℕ)
by_places totals count = map (λ place. (place, slice_index totals place)) (range_with_len 0 count)

-- each place has the weights together that stand beside it, so that sums over either are the same
abbrev pub AreTotals : List (ℕ × ℕ) → (totals : List ℕ) → Type 0
AreTotals os totals = (f : ℕ → ℕ) →
    sum_by (λ (o : ℕ × ℕ). o.1 * f o.0) (by_places totals (length totals)) ≡ sum_by (λ (o : ℕ × ℕ). o.1 * f o.0) os

-- ---- what a test uses of the lists

-- by its role it uses the list as long as it runs
abbrev pub is_in : Role → Bool
is_in Out = false
is_in In = true
is_in Beside = false
is_in Drawing = false

-- by its role it does where its module is on the bus of the list's rank
abbrev pub is_aside : Role → Bool
is_aside Out = false
is_aside In = false
is_aside Beside = true
is_aside Drawing = false

-- the weight of a list that the test is in
abbrev pub in_weight : Role → ℕ → ℕ
in_weight role weight = if is_in role then weight else 0

-- over lists by their places, weight times `f`
abbrev pub weighed_by : List ListValue → List (ℕ × ℕ) → (ListValue → ℕ) → ℕ
weighed_by lists os f = sum_by (λ (o : ℕ × ℕ). o.1 * on (slice_get lists o.0) f) os

-- at its weight what the test at a place uses in `cycles` cycles of a list that it may be beside; `at` says which rank its bus has
abbrev pub beside_use : ListTable → (at : ℕ → Bool) → (test cycles : ℕ) → BesideUse → ℕ
beside_use table at test cycles b = if at b.rank && is_aside (role_at table b.list test) then b.weight * cycles else 0

-- at its weight what it uses of the power
abbrev pub drawn_use : LimitsValue → LiveTest → (cycles : ℕ) → ℕ × ℕ → ℕ
drawn_use limits l cycles p = p.1 * power_use limits p.0 l cycles limits.power

-- what a test uses of some lists, from what the room has of them
abbrev pub UsesAre : Basis → List (ℕ × ℕ) → Weighed → Type 0
UsesAre g os room = (at : ℕ → Bool) (i cycles : ℕ) (l : LiveTest) → slice_get (live_tests (chip_of g)) i ≡ Some l →
    weighed_by (lists_of g) os (λ list. use_of (chip_of g) (limits_of g) at list cycles l)
    ≡ slice_index room.sums.items i * cycles + sum_by (beside_use g.lists at i cycles) room.beside.items + sum_by
    (drawn_use (limits_of g) l cycles) room.power.items

-- the room has these lists at their weights
pub record IsMade (g : Basis) (os : List (ℕ × ℕ)) (room : Weighed) : Type 0 where
  pub long : length room.sums.items ≡ length (live_tests (chip_of g))
  pub uses : UsesAre g os room
  pub low : (i : ℕ) → i < length room.sums.items → slice_index room.sums.items i ≤ all_weights os
  pub beside : length room.beside.items ≤ length os
  pub listed : All (λ (b : BesideUse). b.list < length (lists_of g)) room.beside.items
  pub power : length room.power.items ≤ length os
  pub near : All (λ (p : ℕ × ℕ). IsNear (limits_of g) p.0) room.power.items
  pub rooms : room.rooms ≡ weighed_by (lists_of g) os room_of
  pub few_rooms : room.rooms ≤ all_weights os * 4096

-- what stands in the room when a leaf was made ready: its lists, each at its weights together
pub record IsWeighed (g : Basis) (weights : WeightsValue) (room : Weighed) : Type 0 where
  pub uses : AreUses g weights
  pub os : List (ℕ × ℕ)
  pub made : IsMade g os room
  pub same : (f : ListValue → ℕ) → weighed_by (lists_of g) os f ≡ weighed (lists_of g) weights f
  pub rooms : room.rooms ≡ weighed (lists_of g) weights room_of
  pub few_rooms : room.rooms ≤ 2 ^ 24 * 10 ^ 9 * 4096

-- the test at a place uses nothing: no list that it is in has a weight, and none that tests may be beside or draw of
pub record IsIdle (room : Weighed) (i : ℕ) : Type 0 where
  pub sum : slice_index room.sums.items i ≡ 0
  pub beside : room.beside.items ≡ []
  pub power : room.power.items ≡ []

-- ---- what tests cost

-- the tests over the wires, or the self tests
abbrev pub is_over : (wires tam : Bool) → Bool
is_over true tam = tam
is_over false tam = not tam

-- what a test costs on the bus of a rank, at a width
abbrev pub test_cost : SocValue → LimitsValue → List ListValue → WeightsValue → (rank : Option ℕ) → (width : ℕ) → LiveTest → ℕ
test_cost soc limits lists weights rank width l =
    weighed lists weights (λ list. use_of soc limits (is_rank rank) list (packed_time l.core l.test width) l)

-- what a test of one kind costs; the others cost nothing
abbrev pub kind_cost : Basis → WeightsValue → (wires : Bool) → (rank : Option ℕ) → (width : ℕ) → LiveTest → ℕ
kind_cost g weights wires rank width l =
    if is_over wires l.test.tam then test_cost (chip_of g) (limits_of g) (lists_of g) weights rank width l else 0
