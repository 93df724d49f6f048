use Rattle.std.proofs.Common.{◌≡◌, ℕ, ◌+◌, ◌-◌, ◌<◌, ◌≤◌, length}
use Rattle.std.specs.Prelude.{slice_index}
use Rattle.std.specs.List.{sum_by}
use Rattle.wrapper_design.specs.Loads.{IsMinHeap}
use Rattle.wrapper_design.proofs.loads.replace_least.Given as goal

abbrev pub invariant-loop-place : goal.invariant-loop-place
invariant-loop-place l = record {
  within : l.place < length l.heap;
  heap : IsMinHeap l.heap;
  greater : slice_index l.heap l.place ≤ l.grown;
  sums : (f : ℕ → ℕ) → sum_by f l.heap + f (slice_index l.fn.heap 0) ≡ sum_by f l.fn.heap + f (slice_index l.heap l.place);
}

abbrev pub decreases-loop-place : goal.decreases-loop-place
decreases-loop-place l = length l.initial.heap - l.place
