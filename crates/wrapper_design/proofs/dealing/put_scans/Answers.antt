use Rattle.std.proofs.Common.{ℕ, ◌+◌, ◌∙◌, sym, ap, length, slice_set, arith, get_or}
use Rattle.std.specs.Prelude.{slice_index}
use Rattle.std.proofs.lemmas.List.Sums.{sum_by-set}
use Rattle.plan_model.specs.Plans.{greatest}
use Rattle.wrapper_design.specs.declared.order.ScanChain.{ScanChain}
use Rattle.wrapper_design.specs.Design.{put_all_on_least}
use Rattle.wrapper_design.proofs.Follow.{parts_after, parts_next, total_start, take_sum_bound, total_next, none_longest, no_lengths}
use Rattle.wrapper_design.proofs.Chains.{put_step, chains_step, greatest_grown}
use Rattle.std.specs.BinaryHeap.{heap_items}
use Rattle.wrapper_design.proofs.Shortest.{entries_total}
use Rattle.wrapper_design.proofs.dealing.put_scans.Goals as goal

no_chain : ScanChain
no_chain = record { length = record { 0 = 0 }; place = 0 }

pub loop-chain-init : goal.loop-chain-init
unfolding put_all_on_least
loop-chain-init c = record {
  heap = c.requires.heap;
  entries = c.requires.entries;
  many = c.requires.many;
  total = total_start c.args.loads.now (length c.args.loads.now) c.requires.empty;
  loads = λ lengths is. c.requires.empty ∙ no_lengths lengths (length c.args.loads.now);
  parts = λ lengths is. c.requires.no_scans;
  longest = sym (ap greatest c.requires.empty ∙ none_longest (length c.args.loads.now));
}

pub grow_shortest-requires-clause-fits : goal.grow_shortest-requires-clause-fits
unfolding no_chain
grow_shortest-requires-clause-fits c =
    omega (arith, entries_total (heap_items c.loop-chain.heap) c.loop-chain.loads c.loop-chain.invariant.entries, c.loop-chain.invariant.total, take_sum_bound c.args.order.now c.loop-chain.chain-index no_chain c.loop-chain-test.true, c.requires.fits)

pub loop-chain-preserved : goal.loop-chain-preserved
unfolding no_chain
loop-chain-preserved c =
    let i = c.loop-chain.invariant in
    let g = c.in_ok-place.ensures.grows c.loop-chain.loads i.entries in
    let k : ℕ = c.loop-chain.chain-index in
    let w : ℕ = length c.args.loads.now in
    let j : ℕ = c.in_ok-place.place in
    let place : ℕ = (get_or c.args.order.now c.loop-chain.chain-index no_chain).place in
    let x : ℕ = slice_index c.loop-chain.loads c.in_ok-place.place in
    let grown : ℕ = c.in_ok-place.grown in
    let set = sum_by-set (λ v. v) c.loop-chain.loads j grown 0 g.0.first.within in
    record {
      heap = c.in_ok-place.ensures.heap;
      entries = g.1;
      many = omega (arith, i.many, c.in_ok-place.ensures.len);
      total = total_next c.args.order.now k no_chain c.loop-chain.loads (slice_set c.loop-chain.loads j grown) x grown c.loop-chain-test.true i.total g.0.grown_is set;
      loads = λ lengths is.
          let r = put_step lengths (parts_after lengths c.args.order.now w k) c.loop-chain.loads j place grown (i.loads lengths is) g.0.first (g.0.grown_is ∙ ap (λ v. x + v) (is.lengths_are k no_chain c.loop-chain-test.true)) in
          rw (parts_next lengths c.args.order.now w k no_chain c.loop-chain-test.true) r.3;
      parts = λ lengths is.
          let r = put_step lengths (parts_after lengths c.args.order.now w k) c.loop-chain.loads j place grown (i.loads lengths is) g.0.first (g.0.grown_is ∙ ap (λ v. x + v) (is.lengths_are k no_chain c.loop-chain-test.true)) in
          rw (parts_next lengths c.args.order.now w k no_chain c.loop-chain-test.true, r.2)
          (chains_step (parts_after lengths c.args.order.now w k) c.loop-chain.chains j place c.index-chains-place.result _ r.0 (i.parts lengths is) r.1 (omega (arith, g.0.first.within)) c.in_ok-push.ensures.items);
      longest = c.max-longest.ensures ∙ rw i.longest (sym (greatest_grown c.loop-chain.loads j grown g.0.first.within (omega (arith, g.0.grown_is))));
    }
