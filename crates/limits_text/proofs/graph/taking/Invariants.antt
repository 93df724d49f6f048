use Rattle.std.proofs.Common.{◌-◌}
use Rattle.limits_text.proofs.Taking.{IsUnderWay}
use Rattle.limits_text.proofs.graph.taking.Given as goal

abbrev pub invariant-loop-done : goal.invariant-loop-done
invariant-loop-done l = IsUnderWay l.pairs l.count l.counts.items l.order.items l.done

abbrev pub decreases-loop-done : goal.decreases-loop-done
decreases-loop-done l = l.count - l.done
