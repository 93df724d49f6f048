-- Lists of tests: what each asks of its tests, how much of it there is at one cycle, and how much of it a test uses.
use Rattle.std.specs.Prelude.{ℕ, ◌+◌, ◌*◌, ◌/◌, ◌<◌, ◌≤◌, Bool, ◌&&◌, ◌||◌, MatchOption, Option, None, Some, List, length, map, take, nat_lt, IsTrue, if◌then◌else◌}
use Rattle.std.specs.List.{Contains, sum, list_any, list_all, position_or_len}
use Rattle.soc_model.specs.declared.TestId.{TestId}
use Rattle.soc_model.specs.Chips.{SocValue, LiveTest, live_tests, same_test, id_of}
use Rattle.plan_model.specs.Plans.{LimitsValue, of_first, power_of_id}
use Rattle.plan_model.specs.Rules.{Each, IsNew, live_ids}
use Rattle.plan_model.specs.Bounds.{sum_below}
use Rattle.plan_model.specs.Certificates.{is_called}
use Rattle.proof_facts.specs.Packed.{rising}
use Rattle.proof_facts.specs.Exclusions.{least_power, excludes}
use Rattle.plan_model.specs.Proofs.{ListValue, OfTurns, OfTurnsOn, OfCrowd, OfPower}

-- the test is named in the list
abbrev pub is_among : List TestId → LiveTest → Bool
is_among tests l = list_any (same_test (id_of l)) tests

-- ---- rules

-- the place of the live test of a name among all live tests
abbrev pub live_place : SocValue → TestId → ℕ
live_place soc id = position_or_len (same_test id) (live_ids soc)

-- the live tests of two names exclude each other
abbrev pub names_exclude : SocValue → LimitsValue → TestId → TestId → Bool
names_exclude soc limits x y = excludes soc limits (live_place soc x) (live_place soc y)

-- an entry of a list of turns: a live test, not named before, that excludes each earlier one
pub record IsTurn (soc : SocValue) (limits : LimitsValue) (earlier : List TestId) (id : TestId) : Type 0 where
  pub live : Contains (live_ids soc) id
  pub new : IsNew earlier id
  pub apart : (other : TestId) → Contains earlier other → IsTrue (names_exclude soc limits id other)

-- an entry of a crowd: a live test, not named before
pub record IsCrowdItem (soc : SocValue) (earlier : List TestId) (id : TestId) : Type 0 where
  pub live : Contains (live_ids soc) id
  pub new : IsNew earlier id

-- the least power of the live test of a name
abbrev pub least_power_of : SocValue → LimitsValue → TestId → ℕ
least_power_of soc limits id = of_first (is_called id) (least_power limits) 0 (live_tests soc)

-- the `n` least of some numbers, together
abbrev pub least_together : (n : ℕ) → List ℕ → ℕ
least_together n xs = sum (take n (rising xs))

-- more of these tests than may be active together: the least powers of any `most + 1` of them pass the limit
pub record IsCrowd (soc : SocValue) (limits : LimitsValue) (most : ℕ) (tests : List TestId) : Type 0 where
  pub some : 1 ≤ most
  pub items : Each (IsCrowdItem soc) tests
  pub many : most < length tests
  pub heavy : MatchOption limits.power ⊥ (λ limit. limit < least_together (most + 1) (map (least_power_of soc limits) tests))

-- a limit of power, and a number of at most half of it
abbrev pub IsNear : LimitsValue → ℕ → Type 0
IsNear limits near = MatchOption limits.power ⊥ (λ limit. (1 ≤ limit) × (2 * near ≤ limit))

-- the rule of each kind
abbrev pub KeepsList : SocValue → LimitsValue → ListValue → Type 0
KeepsList soc limits (OfTurns tests) = Each (IsTurn soc limits) tests
KeepsList soc limits (OfTurnsOn rank tests) = Each (IsTurn soc limits) tests
KeepsList soc limits (OfCrowd most tests) = IsCrowd soc limits most tests
KeepsList soc limits (OfPower near) = IsNear limits near

-- a list keeps its rule, whatever lists are before it
abbrev pub KeptBehind : SocValue → LimitsValue → (earlier : List ListValue) → ListValue → Type 0
KeptBehind soc limits earlier list = KeepsList soc limits list

-- so does each list
abbrev pub AreKept : SocValue → LimitsValue → List ListValue → Type 0
AreKept soc limits lists = Each (KeptBehind soc limits) lists

-- ---- how much there is at each cycle

-- room for one test at a time, or for `most` tests of a crowd; of the power all
abbrev pub room_of : ListValue → ℕ
room_of (OfTurns tests) = 1
room_of (OfTurnsOn rank tests) = 1
room_of (OfCrowd most tests) = most
room_of (OfPower near) = 1

-- ---- how much of it a test uses in a given number of cycles

-- the test excludes each of those that the list names
abbrev pub excludes_all : SocValue → LimitsValue → List TestId → LiveTest → Bool
excludes_all soc limits tests l = list_all (names_exclude soc limits (id_of l)) tests

-- a test over the wires of the bus with this rank, where `on` says which rank that is
abbrev pub is_beside : SocValue → LimitsValue → (on : ℕ → Bool) → (rank : ℕ) → List TestId → LiveTest → Bool
is_beside soc limits on rank tests l = l.test.tam && (on rank && excludes_all soc limits tests l)

-- a power as it counts: all of the limit where it is so near to it, nothing where it is small
abbrev pub counted : (limit near power : ℕ) → ℕ
counted limit near power = if nat_lt limit (power + near) then limit else if nat_lt power near then 0 else power

-- the share of all power in a cycle that the test takes in `cycles` cycles, rounded down
abbrev pub power_use : LimitsValue → (near : ℕ) → LiveTest → (cycles : ℕ) → Option ℕ → ℕ
power_use limits near l cycles None = 0
power_use limits near l cycles (Some limit) =
    sum_below (λ r. counted limit near (power_of_id limits (id_of l) l.test.power r)) cycles / limit

-- a test uses the list in all its cycles, or in none; the power by its share
abbrev pub use_of : SocValue → LimitsValue → (on : ℕ → Bool) → ListValue → (cycles : ℕ) → LiveTest → ℕ
use_of soc limits on (OfTurns tests) cycles l = if is_among tests l then cycles else 0
use_of soc limits on (OfTurnsOn rank tests) cycles l = if is_among tests l || is_beside soc limits on rank tests l then cycles else 0
use_of soc limits on (OfCrowd most tests) cycles l = if is_among tests l then cycles else 0
use_of soc limits on (OfPower near) cycles l = power_use limits near l cycles limits.power
