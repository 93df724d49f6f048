use Rattle.std.proofs.Common.{◌≡◌, ◌++◌, take, vec_capacity}
use Rattle.leaf_bounds.proofs.ranks.copy_rest.Given as goal

abbrev pub invariant-loop-place : goal.invariant-loop-place
invariant-loop-place l = record {
  may : l.ranks.may.items ≡ l.initial.ranks.may.items ++ take l.place l.initial.ranks.may.items;
  trail : l.ranks.trail.items ≡ l.initial.ranks.trail.items;
  most : l.ranks.most ≡ l.initial.ranks.most;
  room : vec_capacity l.ranks.may ≡ vec_capacity l.initial.ranks.may;
  trail_room : vec_capacity l.ranks.trail ≡ vec_capacity l.initial.ranks.trail;
}
