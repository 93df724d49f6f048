-- The room of the checker.
use Rattle.std.specs.Prelude.{◌≡◌, ℕ, ◌+◌, ◌*◌, ◌≤◌, length, vec_capacity}
use Rattle.soc_model.specs.Chips.{SocValue, live_tests}
use Rattle.plan_model.specs.Plans.{PlanValue}
use Rattle.plan_model.specs.declared.TheConstants.{WIRES_MOST}
use Rattle.plan_model.specs.Rules.{used_pairs}
use Rattle.indexmap.specs.IndexSet.{keys, spare}
use Rattle.live_tests.specs.Placed.{AreWalked, placed_tests}
use Rattle.plan_checker.specs.declared.check.NamedRooms.{NamedRooms}
use Rattle.plan_checker.specs.declared.events.TheConstants.{EVENTS_EACH}
use Rattle.plan_checker.specs.declared.space.PlacedRooms.{PlacedRooms}
use Rattle.plan_checker.specs.declared.space.Rooms.{Rooms}
use Rattle.plan_checker.specs.declared.space.CheckSizes.{CheckSizes}

-- what there is room for: modules, pairs of a module and a mode, and live tests
pub record RoomValue : Type 0 where
  pub modules : ℕ
  pub pairs : ℕ
  pub tests : ℕ

-- room for the modules of the chip, the pairs that want a wrapper, and the live tests
pub record HasRoom (soc : SocValue) (room : RoomValue) : Type 0 where
  pub modules : room.modules ≡ length soc.modules
  pub pairs : length (used_pairs soc) ≤ room.pairs
  pub tests : room.tests ≡ length (live_tests soc)

-- the sizes are those of the chip; there may be more pairs
pub record AreSizes (soc : SocValue) (sizes : CheckSizes) : Type 0 where
  pub modules : sizes.modules ≡ length soc.modules
  pub pairs : length (used_pairs soc) ≤ sizes.pairs
  pub tests : sizes.tests ≡ length (live_tests soc)

-- lists for `modules` modules and `live` live tests
pub record HasPlacedRoom (modules live : ℕ) (room : PlacedRooms) : Type 0 where
  pub parents : length room.parents.items ≡ modules
  pub wrappers : length room.wrappers.items ≡ modules
  pub tests : length room.tests.items ≡ live
  pub begins : length room.begins.items ≡ live
  pub ends : length room.ends.items ≡ modules + WIRES_MOST + 1
  pub profiles : length room.profiles.items ≡ live
  pub events : live * EVENTS_EACH ≤ vec_capacity room.events

-- and for `pairs` pairs of a module and a mode
pub record HasRuleRoom (modules pairs live : ℕ) (rooms : Rooms) : Type 0 where
  pub marks : length rooms.marks.items ≡ modules
  pub wrappers : pairs ≤ length (keys rooms.wrappers) + spare rooms.wrappers
  pub starts : length rooms.starts.items ≡ live
  pub placed : HasPlacedRoom modules live rooms.placed

-- as the chip wants it
abbrev pub HasRoomFor : SocValue → Rooms → Type 0
HasRoomFor soc rooms = HasRuleRoom (length soc.modules) (length (used_pairs soc)) (length (live_tests soc)) rooms

-- what there was room for there still is room for
abbrev pub StaysRoom : (old new : Rooms) → Type 0
StaysRoom old new = (modules pairs live : ℕ) → HasRuleRoom modules pairs live old → HasRuleRoom modules pairs live new

-- the live tests of the chip as the plan places them, and the wrappers of its modules
pub record HoldsPlaced (soc : SocValue) (plan : PlanValue) (room : PlacedRooms) : Type 0 where
  pub tests : room.tests.items ≡ placed_tests soc plan
  pub wrappers : AreWalked soc plan room.wrappers.items

-- ---- with a set of the names of live tests

pub record HasNamedRoom (modules pairs live : ℕ) (rooms : NamedRooms) : Type 0 where
  pub rules : HasRuleRoom modules pairs live rooms.plan.rules
  pub names : live ≤ length (keys rooms.names) + spare rooms.names

-- as the chip wants it
abbrev pub HasNamedRoomFor : SocValue → NamedRooms → Type 0
HasNamedRoomFor soc rooms = HasNamedRoom (length soc.modules) (length (used_pairs soc)) (length (live_tests soc)) rooms

abbrev pub StaysNamedRoom : (old new : NamedRooms) → Type 0
StaysNamedRoom old new = (modules pairs live : ℕ) → HasNamedRoom modules pairs live old → HasNamedRoom modules pairs live new

-- what it has room for
abbrev pub room_value : NamedRooms → RoomValue
room_value rooms = record {
  modules = length rooms.plan.rules.marks.items;
  pairs = length (keys rooms.plan.rules.wrappers) + spare rooms.plan.rules.wrappers;
  tests = length rooms.plan.rules.placed.tests.items;
}

-- every list and set has room for that
abbrev pub IsNamedRoom : NamedRooms → Type 0
IsNamedRoom rooms = HasNamedRoom (room_value rooms).modules (room_value rooms).pairs (room_value rooms).tests rooms
