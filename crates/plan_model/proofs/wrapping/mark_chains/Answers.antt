use Rattle.std.proofs.Common.{◌+◌, refl, sym, arith}
use Rattle.plan_model.proofs.ScanMarks.{listed_more}
use Rattle.plan_model.proofs.wrapping.mark_chains.Goals as goal

pub returns-then-not-mark_chain-clause-twice : goal.returns-then-not-mark_chain-clause-twice
returns-then-not-mark_chain-clause-twice c = λ _.
    let w = c.if-not-mark_chain.ensures.twice refl in
    let h = rw c.deref.ensures.value at w.2 in
    (w.0, omega (arith, w.1), omega (arith, h, c.loop-chain.invariant w.0 (omega (arith, w.1)), listed_more (c.args.base + w.0) c.args.chains.now c.loop-chain.chain-index c.chain-item.result (omega arith) (sym c.chain-item.is)))
