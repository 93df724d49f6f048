use Rattle.std.proofs.Common.{◌≡◌, ◌≤◌, ◌*◌, ◌^◌, take, sum}
use Rattle.leaf_bounds.proofs.leaf_sums.rank_sum.Given as goal

abbrev pub invariant-loop-weight : goal.invariant-loop-weight
invariant-loop-weight l = record {
  sum : l.sum ≡ sum (take l.weight-index l.ranks);
  few : l.sum ≤ l.weight-index * 10 ^ 9;
}
