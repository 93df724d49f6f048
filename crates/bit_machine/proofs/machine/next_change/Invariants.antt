use Rattle.std.proofs.Common.{◌≡◌, ℕ, ◌<◌, Some, slice_get}
use Rattle.bit_machine.specs.Machines.{IsLaneUnchanged}
use Rattle.bit_machine.specs.declared.stepped.SteppedLane.{SteppedLane}
use Rattle.bit_machine.proofs.machine.next_change.Given as goal

abbrev pub invariant-loop-stepped : goal.invariant-loop-stepped
invariant-loop-stepped l = (i : ℕ) (x : SteppedLane) → i < l.stepped-index → slice_get l.lanes i ≡ Some x → IsLaneUnchanged l.cycle l.change x.lane
