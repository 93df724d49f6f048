use Rattle.std.proofs.Common.{◌≡◌, ℕ, arith, ap, ◌∙◌, sym, get_or-set_other, length-set}
use Rattle.std.specs.Prelude.{slice_index, slice_set}
use Rattle.wrapper_design.proofs.Heap.{heap_step, sums_step, sums_down, sums_end}
use Rattle.wrapper_design.proofs.loads.replace_least.Goals as goal
use Rattle.wrapper_design.proofs.loads.replace_least.Goals.{then-child-heap+then-heap-child, else-child-heap}

pub loop-place-preserved : goal.loop-place-preserved
loop-place-preserved c =
    let i = c.loop-place.invariant in
    let e = c.lesser_child-child.ensures in
    let h = c.loop-place.heap in
    let p : ℕ = c.loop-place.place in
    let k : ℕ = c.lesser_child-child.result in
    let same : slice_index (slice_set c.loop-place.heap c.loop-place.place (slice_index c.loop-place.heap c.lesser_child-child.result)) c.lesser_child-child.result ≡ slice_index c.loop-place.heap c.lesser_child-child.result =
    get_or-set_other c.loop-place.heap c.loop-place.place c.lesser_child-child.result (slice_index c.loop-place.heap c.lesser_child-child.result) 0 (λ q. omega arith) in
    record {
      within = omega (arith, length-set c.loop-place.heap c.loop-place.place (slice_index c.loop-place.heap c.lesser_child-child.result));
      heap = heap_step c.loop-place.heap p k i.heap e.above e.below (omega arith) e.left e.right;
      greater = omega arith;
      sums = λ f.
          let one : f (slice_index (slice_set c.loop-place.heap c.loop-place.place (slice_index c.loop-place.heap c.lesser_child-child.result)) c.lesser_child-child.result) ≡ f (slice_index c.loop-place.heap c.lesser_child-child.result) = ap f same in
          omega (arith, sums_step c.loop-place.heap c.args.heap.now p k (slice_index c.args.heap.now 0) (slice_index c.loop-place.heap c.lesser_child-child.result) f i.within (i.sums f));
    }

pub returns-clause-sums : goal.returns-clause-sums
returns-clause-sums c =
    let h0 = c.args.heap.now in
    elim c.if-child-heap.branch [
      | then-child-heap+then-heap-child w ↦
          let e : c.if-child-heap.heap ≡ slice_set c.loop-place.heap c.loop-place.place (slice_index c.loop-place.heap c.if-child-heap.place) = w.heap-is ∙ ap (λ v. slice_set c.loop-place.heap c.loop-place.place (slice_index c.loop-place.heap v)) (sym w.place-is) in
          sums_end c.if-child-heap.heap c.args.heap.now c.if-child-heap.place (slice_index c.args.heap.now 0) c.args.grown (omega arith)
          (sums_down c.loop-place.heap c.args.heap.now c.if-child-heap.heap c.loop-place.place c.if-child-heap.place (slice_index c.args.heap.now 0) e (omega arith) (omega arith) c.loop-place.invariant.sums)
      | else-child-heap w ↦
          rw (w.heap-is, w.place-is) (sums_end c.loop-place.heap c.args.heap.now c.loop-place.place (slice_index c.args.heap.now 0) c.args.grown (omega arith) c.loop-place.invariant.sums)
    ]
