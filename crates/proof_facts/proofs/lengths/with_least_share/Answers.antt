use Rattle.std.proofs.Common.{◌-◌, ◌*◌, max, min, length, ap, ◌∙◌, arith}
use Rattle.plan_model.specs.Bounds.{least_from_one}
use Rattle.proof_facts.specs.Fronts.{even_share}
use Rattle.proof_facts.proofs.Shares.{first_share, first_least, one_fewer, still_low, all_shares, no_more_than}
use Rattle.proof_facts.proofs.lengths.with_least_share.Goals as goal

pub returns-then-k-eq0 : goal.returns-then-k-eq0
returns-then-k-eq0 c =
    c.max.ensures
    ∙ ap (max c.args.most) (first_least c.args.sorted.now c.args.width c.args.k c.min-busy.result c.even_share-least.result c.if-k-eq0.true (omega (arith, c.min-busy.ensures, c.requires.some_wire, c.requires.within)) c.even_share-least.ensures
    ∙ ap (least_from_one (even_share c.args.sorted.now c.args.width c.args.k)) c.min-busy.ensures)

pub loop-fewer-init : goal.loop-fewer-init
loop-fewer-init c =
    let first = first_share (even_share c.args.sorted.now c.args.width c.args.k) c.min-busy.result c.even_share-least.result (omega (arith, c.min-busy.ensures, c.requires.some_wire, c.requires.within)) c.even_share-least.ensures in
    record { all = first.0; low = first.1 }

pub loop-fewer-preserved : goal.loop-fewer-preserved
loop-fewer-preserved c = record {
  all = one_fewer (even_share c.args.sorted.now c.args.width c.args.k) c.min-busy.result c.loop-fewer.fewer c.loop-fewer.least c.min-least.result c.loop-fewer-test.true (c.min-least.ensures ∙ ap (min c.loop-fewer.least) c.even_share.ensures) c.loop-fewer.invariant.all;
  low = still_low (even_share c.args.sorted.now c.args.width c.args.k) c.min-busy.result c.loop-fewer.fewer c.loop-fewer.least c.min-least.result c.loop-fewer-test.true (c.min-least.ensures ∙ ap (min c.loop-fewer.least) c.even_share.ensures) c.loop-fewer.invariant.low;
}

pub returns-then-least-most : goal.returns-then-least-most
returns-then-least-most c =
    no_more_than (even_share c.args.sorted.now c.args.width c.args.k) c.min-busy.result (min c.args.width (length c.args.sorted.now - c.args.k * c.args.width)) c.loop-fewer.least c.args.most c.min-busy.ensures c.if-least-most.true c.loop-fewer.invariant.low

pub returns : goal.returns
returns c =
    c.max-2.ensures
    ∙ ap (max c.args.most) (all_shares (even_share c.args.sorted.now c.args.width c.args.k) c.min-busy.result c.loop-fewer.fewer c.loop-fewer.least (omega (arith, c.min-busy.ensures, c.requires.some_wire, c.requires.within)) c.loop-fewer-test.false c.loop-fewer.invariant.all c.loop-fewer.invariant.low
    ∙ ap (least_from_one (even_share c.args.sorted.now c.args.width c.args.k)) c.min-busy.ensures)
