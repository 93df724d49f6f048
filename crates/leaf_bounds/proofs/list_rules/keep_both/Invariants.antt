use Rattle.std.proofs.Common.{◌≡◌, length, take}
use Rattle.leaf_bounds.specs.ListRules.{both_marked}
use Rattle.leaf_bounds.proofs.list_rules.keep_both.Given as goal

abbrev pub invariant-loop-place : goal.invariant-loop-place
invariant-loop-place l = record {
  long : length l.marks ≡ length l.initial.marks;
  marks : l.marks ≡ both_marked l.initial.marks (take l.place l.others);
}
