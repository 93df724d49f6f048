use Rattle.std.proofs.Common.{◌≡◌, ◌<◌, ℕ, length, slice_index}
use Rattle.pack_leaves.proofs.knapsack.clear_row.Given as goal

abbrev pub invariant-loop-x : goal.invariant-loop-x
invariant-loop-x l = record {
  long : length l.row ≡ length l.initial.row;
  cleared : (x : ℕ) → x < l.x → slice_index l.row x ≡ 0;
}
