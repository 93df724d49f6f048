use Rattle.std.proofs.Common.{◌-◌, length}
use Rattle.limits_text.proofs.Walking.{IsWalking}
use Rattle.limits_text.proofs.graph.walk_on.Given as goal

abbrev pub invariant-loop-meets : goal.invariant-loop-meets
invariant-loop-meets l = IsWalking l.next l.start l.walk.items l.test

abbrev pub decreases-loop-meets : goal.decreases-loop-meets
decreases-loop-meets l = length l.next - length l.walk.items
