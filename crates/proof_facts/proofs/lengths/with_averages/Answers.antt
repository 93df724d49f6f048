use Rattle.std.proofs.Common.{length, arith}
use Rattle.bound_rules.proofs.Works.{div_ceil_is}
use Rattle.proof_facts.proofs.Greatest.{below_up}
use Rattle.proof_facts.proofs.Shares.{more_tried, still_within, all_tried}
use Rattle.proof_facts.proofs.lengths.with_averages.Goals as goal

pub loop-k-preserved : goal.loop-k-preserved
loop-k-preserved c = record {
  all = λ lengths sorted. more_tried c.args.sorted.now lengths c.args.width c.loop-k.k c.loop-k.greatest c.with_least_share-greatest.result c.with_least_share-greatest.ensures sorted (c.loop-k.invariant.all lengths sorted);
  low = omega (arith, c.loop-k.invariant.low, c.with_least_share-greatest.ensures);
  within = λ lengths sorted. still_within c.args.sorted.now lengths c.args.width c.loop-k.k c.args.most c.loop-k.greatest c.with_least_share-greatest.result c.requires.some_wire (below_up (length c.args.sorted.now) c.args.width c.loop-k.k c.requires.some_wire (omega (arith, c.loop-k-test.true, c.div_ceil-k-end.ensures, div_ceil_is (length c.args.sorted.now) c.args.width c.requires.some_wire))) c.with_least_share-greatest.ensures sorted (c.loop-k.invariant.within lengths sorted);
}

pub returns : goal.returns
returns c = λ lengths sorted. all_tried c.args.sorted.now lengths c.args.width c.loop-k.k c.args.most c.loop-k.greatest c.requires.some_wire (omega (arith, c.loop-k-test.false, c.div_ceil-k-end.ensures, div_ceil_is (length c.args.sorted.now) c.args.width c.requires.some_wire)) sorted (c.loop-k.invariant.all lengths sorted) c.loop-k.invariant.low (c.loop-k.invariant.within lengths sorted)
