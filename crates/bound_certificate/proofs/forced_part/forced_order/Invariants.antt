use Rattle.std.proofs.Common.{◌≡◌, ◌+◌, ◌-◌, ◌++◌, flat_map}
use Rattle.bound_certificate.specs.Best.{with_need, down_from, by_need}
use Rattle.bound_certificate.proofs.forced_part.forced_order.Given as goal

abbrev pub invariant-loop-step : goal.invariant-loop-step
invariant-loop-step l = l.order.items ++ flat_map (with_need l.problem.soc l.problem.limits.wires l.claimed) (down_from (l.problem.limits.wires + 1 - l.step)) ≡ by_need l.problem.soc l.problem.limits.wires l.claimed
