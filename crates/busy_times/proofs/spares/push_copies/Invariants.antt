use Rattle.std.proofs.Common.{◌≡◌, ◌++◌, replicate, vec_capacity}
use Rattle.busy_times.proofs.spares.push_copies.Given as goal

abbrev pub invariant-loop : goal.invariant-loop
invariant-loop l = record {
  items : l.points.items ≡ l.fn.points.items ++ replicate l.counter l.fn.point;
  capacity : vec_capacity l.points ≡ vec_capacity l.fn.points;
}
