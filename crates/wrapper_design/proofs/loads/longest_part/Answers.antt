use Rattle.std.proofs.Common.{ℕ, ◌+◌, ◌<◌, get_or, sym, subst, length, arith, refl}
use Rattle.std.specs.Prelude.{slice_index}
use Rattle.wrapper_design.specs.declared.order.ScanChain.{ScanChain}
use Rattle.wrapper_design.specs.Loads.{IsMinHeap}
use Rattle.wrapper_design.proofs.Follow.{Follows, parts_after, heap_start, follow_start, follow_next, total_start, total_next}
use Rattle.wrapper_design.proofs.loads.longest_part.Goals as goal

pub loop-chain-init : goal.loop-chain-init
loop-chain-init c = record {
  heap = subst IsMinHeap (sym c.requires.empty) (heap_start (length c.args.loads.now));
  total = total_start c.args.loads.now (length c.args.loads.now) c.requires.empty;
  follows = λ lengths is. subst (λ v. Follows lengths (parts_after lengths c.args.order.now (length c.args.loads.now) 0) v 0) (sym c.requires.empty) (follow_start lengths c.args.order.now (length c.args.loads.now));
}

no_chain : ScanChain
no_chain = record { length = record { 0 = 0 }; place = 0 }

pub loop-chain-preserved : goal.loop-chain-preserved
unfolding no_chain
loop-chain-preserved c =
    let i = c.loop-chain.invariant in
    let k : ℕ = c.loop-chain.chain-index in
    let some : 0 < length c.loop-chain.loads = omega arith in
    let grown : ℕ = slice_index c.loop-chain.loads 0 + (get_or c.args.order.now c.loop-chain.chain-index no_chain).length.0 in
    record {
      heap = c.replace_least.ensures.heap;
      total = total_next c.args.order.now k no_chain c.loop-chain.loads c.replace_least.new.heap (slice_index c.loop-chain.loads 0) grown c.loop-chain-test.true i.total refl (c.replace_least.ensures.sums (λ x. x));
      follows = λ lengths is. rw c.max-longest.ensures (follow_next lengths c.args.order.now (length c.args.loads.now) k no_chain c.loop-chain.loads c.replace_least.new.heap c.loop-chain.longest grown c.loop-chain-test.true is c.requires.some i.heap some (i.follows lengths is) refl c.replace_least.ensures.sums);
    }
