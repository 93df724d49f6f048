use Rattle.std.proofs.Common.{◌∙◌, ap, max, length, arith}
use Rattle.bound_rules.proofs.Works.{div_ceil_is}
use Rattle.proof_facts.proofs.Greatest.{more_tried, still_within, all_tried, below_up}
use Rattle.proof_facts.proofs.lengths.counted_length.Goals as goal

pub loop-k-preserved : goal.loop-k-preserved
loop-k-preserved c = record {
  all = more_tried c.args.sorted.now c.args.width c.loop-k.k c.loop-k.most c.max-most.result (c.max-most.ensures ∙ ap (max c.loop-k.most) c.window.ensures) c.loop-k.invariant.all;
  most = λ lengths sorted. still_within c.args.sorted.now lengths c.args.width c.loop-k.k c.loop-k.most c.max-most.result c.requires.some_wire (below_up (length c.args.sorted.now) c.args.width c.loop-k.k c.requires.some_wire (omega (arith, c.loop-k-test.true, c.div_ceil-k-end.ensures, div_ceil_is (length c.args.sorted.now) c.args.width c.requires.some_wire))) (c.max-most.ensures ∙ ap (max c.loop-k.most) c.window.ensures) sorted (c.loop-k.invariant.most lengths sorted);
}

pub returns : goal.returns
returns c = λ lengths sorted. all_tried c.args.sorted.now lengths c.args.width c.loop-k.k c.loop-k.most c.requires.some_wire (omega (arith, c.loop-k-test.false, c.div_ceil-k-end.ensures, div_ceil_is (length c.args.sorted.now) c.args.width c.requires.some_wire)) c.loop-k.invariant.all sorted (c.loop-k.invariant.most lengths sorted)
