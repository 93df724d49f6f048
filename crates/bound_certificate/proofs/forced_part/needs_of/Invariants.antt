use Rattle.std.proofs.Common.{◌≡◌, map}
use Rattle.std.specs.List.{range_with_len}
use Rattle.bound_certificate.specs.Needs.{need_or_zero}
use Rattle.bound_certificate.proofs.forced_part.needs_of.Given as goal

abbrev pub invariant-loop-place : goal.invariant-loop-place
invariant-loop-place l = l.needs.items ≡ map (need_or_zero l.problem.soc l.problem.limits.wires l.claimed) (range_with_len 0 l.place)
