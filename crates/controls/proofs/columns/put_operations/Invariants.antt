use Rattle.std.proofs.Common.{◌-◌}
use Rattle.controls.proofs.Marking.{IsPutTo}
use Rattle.controls.proofs.columns.put_operations.Given as goal

abbrev pub invariant-loop-cycle : goal.invariant-loop-cycle
invariant-loop-cycle l = IsPutTo l.own l.test l.columns l.from l.count l.cycle l.initial.text l.text

abbrev pub decreases-loop-cycle : goal.decreases-loop-cycle
decreases-loop-cycle l = l.end - l.cycle
