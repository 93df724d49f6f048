use Rattle.std.proofs.Common.{◌≡◌, length, slice_index}
use Rattle.pack_leaves.proofs.Rows.{IsFilled}
use Rattle.pack_leaves.proofs.sharing.fill_rest.Given as goal

abbrev pub invariant-loop-x : goal.invariant-loop-x
invariant-loop-x l = record {
  long : length l.row ≡ length l.initial.row;
  filled : IsFilled (slice_index l.worth) l.high l.x l.row;
}
