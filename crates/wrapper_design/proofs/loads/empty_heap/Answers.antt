use Rattle.std.proofs.Common.{◌+◌, ◌∙◌, ap}
use Rattle.std.specs.BinaryHeap.{heap_items}
use Rattle.wrapper_design.proofs.Shortest.{entries_push}
use Rattle.wrapper_design.proofs.loads.empty_heap.Goals as goal

pub loop-place-preserved : goal.loop-place-preserved
loop-place-preserved c = record {
  len = c.in_ok-push.ensures.len ∙ ap (λ v. v + 1) c.loop-place.invariant.len;
  heap = c.in_ok-push.ensures.heap_order c.loop-place.invariant.heap;
  entries = entries_push (heap_items c.loop-place.heap) (heap_items c.push.new.self) c.loop-place.place c.loop-place.invariant.entries c.in_ok-push.ensures.permutation;
}
