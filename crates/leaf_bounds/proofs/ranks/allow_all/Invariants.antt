use Rattle.std.proofs.Common.{◌≡◌, [], replicate, true, vec_capacity}
use Rattle.leaf_bounds.proofs.ranks.allow_all.Given as goal

abbrev pub invariant-loop-module : goal.invariant-loop-module
invariant-loop-module l = record {
  may : l.ranks.may.items ≡ replicate l._module true;
  trail : l.ranks.trail.items ≡ [];
  most : l.ranks.most ≡ l.initial.ranks.most;
  room : vec_capacity l.ranks.may ≡ vec_capacity l.initial.ranks.may;
  trail_room : vec_capacity l.ranks.trail ≡ vec_capacity l.initial.ranks.trail;
}
