use Rattle.std.proofs.Common.{◌≡◌, ◌+◌, drop, sum}
use Rattle.report.proofs.totals.wires_used.Given as goal

abbrev pub invariant-loop-width : goal.invariant-loop-width
invariant-loop-width l = l.used + sum (drop l.width-index l.ws) ≡ sum l.ws
