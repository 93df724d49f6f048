use Rattle.std.proofs.Common.{◌≡◌, replicate}
use Rattle.std.specs.BinaryHeap.{IsHeap, heap_items, heap_len}
use Rattle.wrapper_design.specs.Entries.{entry_cmp, HasEntries}
use Rattle.wrapper_design.proofs.loads.empty_heap.Given as goal

abbrev pub invariant-loop-place : goal.invariant-loop-place
invariant-loop-place l = record {
  len : heap_len l.heap ≡ l.place;
  heap : IsHeap entry_cmp (heap_items l.heap);
  entries : HasEntries (heap_items l.heap) (replicate l.place 0);
}
