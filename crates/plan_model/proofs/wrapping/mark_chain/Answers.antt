use Rattle.std.proofs.Common.{◌+◌, refl, arith}
use Rattle.plan_model.proofs.ScanMarks.{times_more}
use Rattle.plan_model.proofs.wrapping.mark_chain.Goals as goal

pub returns-then-not-mark_scan-clause-twice : goal.returns-then-not-mark_scan-clause-twice
returns-then-not-mark_scan-clause-twice c = λ _.
    let w = c.if-not-mark_scan.ensures.twice refl in
    (w.0, omega (arith, w.1), omega (arith, w.3, c.loop-scan.invariant w.0 (omega (arith, w.1)), times_more (c.args.base + w.0) c.args.scans.now c.loop-scan.scan-index (omega arith) w.2))
