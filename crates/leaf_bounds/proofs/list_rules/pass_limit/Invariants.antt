use Rattle.std.proofs.Common.{◌≡◌, ◌*◌, ◌≤◌, take, sum}
use Rattle.leaf_bounds.proofs.list_rules.pass_limit.Given as goal

abbrev pub invariant-loop-place : goal.invariant-loop-place
invariant-loop-place l = record {
  is : l.sum ≡ sum (take l.place l.powers);
  small : l.sum ≤ 18446744073709551616 * l.place;
}
