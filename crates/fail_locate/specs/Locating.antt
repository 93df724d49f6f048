-- How a read is found: the bus of a wire, the test on it, the capture behind it.
use Rattle.std.specs.Prelude.{◌≡◌, ℕ, ◌+◌, ◌<◌, ◌≤◌, Bool, ◌&&◌, ◌||◌, Option, Some, List, length, nat_eq, nat_le, nat_lt, option_map, slice_get, slice_index}
use Rattle.soc_model.specs.Chips.{SocValue}
use Rattle.soc_model.specs.SoundChips.{IsSoundChip}
use Rattle.plan_model.specs.declared.moments.Phases.{Phases}
use Rattle.plan_model.specs.declared.moments.NearCapture.{NearCapture}
use Rattle.plan_model.specs.Moments.{phase_ops, near_capture}
use Rattle.plan_model.specs.Operations.{Capture}
use Rattle.plan_model.specs.Plans.{PlanValue, planned, widths}
use Rattle.plan_model.specs.Rules.{IsGoodAlone}
use Rattle.live_tests.specs.Wires.{AreFirstWires}
use Rattle.fail_locate.specs.declared.wired.WiredTest.{WiredTest}
use Rattle.fail_locate.specs.Wired.{AreWired, AreInOrder}

-- the last of these first wires that is the wire or comes before it, and how many wires lie between
pub record IsOnWire (firsts : List ℕ) (wire bus chain : ℕ) : Type 0 where
  pub bus_there : bus < length firsts
  pub wire_is : slice_index firsts bus + chain ≡ wire
  pub last : (b : ℕ) → b < length firsts → slice_index firsts b ≤ wire → b ≤ bus

-- on an earlier bus, or on this one and begun by the cycle
abbrev pub comes_by : (bus cycle : ℕ) → WiredTest → Bool
comes_by bus cycle t = nat_lt t.bus bus || (nat_eq t.bus bus && nat_le t.start cycle)

-- the last test of the bus that has begun by the cycle
pub record IsLast (tests : List WiredTest) (bus cycle : ℕ) (last : WiredTest) : Type 0 where
  pub place : ℕ
  pub at : slice_get tests place ≡ Some last
  pub same_bus : last.bus ≡ bus
  pub begun : last.start ≤ cycle
  pub latest : (n : ℕ) (t : WiredTest) → slice_get tests n ≡ Some t → t.bus ≡ bus → t.start ≤ cycle → t.start ≤ last.start

-- between the capture of a pattern and operation `n` there are `shifts` operations
pub record IsBehind (p : Phases) (n shifts pattern : ℕ) : Type 0 where
  pub at : ℕ
  pub captures : slice_get (phase_ops p) at ≡ Some (Capture pattern)
  pub before : n ≡ at + 1 + shifts

-- the capture behind operation `n`: it is one, and where one is read, it is that
pub record IsNearCapture (p : Phases) (n : ℕ) (near : Option NearCapture) : Type 0 where
  pub behind : (s k : ℕ) → option_map near_capture near ≡ Some (s, k) → IsBehind p n s k
  pub every : (s k : ℕ) → IsBehind p n s k → n < length (phase_ops p) → s < p.so → option_map near_capture near ≡ Some (s, k)

-- what every locator keeps
pub record IsLocator (soc : SocValue) (plan : PlanValue) (firsts : List ℕ) (tests : List WiredTest) : Type 0 where
  pub sound : IsSoundChip soc
  pub good : IsGoodAlone soc plan
  pub firsts_are : AreFirstWires (widths plan) firsts
  pub wired : AreWired soc plan (planned soc plan) tests
  pub order : AreInOrder tests
