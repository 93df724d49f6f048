use Rattle.std.proofs.Common.{◌<◌, length, get_or, ap, arith, slice_index}
use Rattle.std.proofs.lemmas.List.Sums.{sum_by_more, sum_by_more_le}
use Rattle.bit_machine.proofs.capturing.length_of.Goals as goal

pub overflow_add-flops : goal.overflow_add-flops
overflow_add-flops c =
    let e = c.deref-scan-items.ensures.value in
    let within : c.loop-scan.scan-index < length c.args.chain.now.scans.items = rw e at c.loop-scan-test.true in
    let part = sum_by_more_le (slice_index c.args.lengths.now) c.args.chain.now.scans.items c.loop-scan.scan-index 0 within in
    omega (arith, part, c.loop-scan.invariant, c.requires.fits, ap (λ scans. slice_index c.args.lengths.now (get_or scans c.loop-scan.scan-index 0)) e)

pub loop-scan-preserved : goal.loop-scan-preserved
loop-scan-preserved c =
    let e = c.deref-scan-items.ensures.value in
    let within : c.loop-scan.scan-index < length c.args.chain.now.scans.items = rw e at c.loop-scan-test.true in
    let more = sum_by_more (slice_index c.args.lengths.now) c.args.chain.now.scans.items c.loop-scan.scan-index 0 within in
    omega (arith, more, c.loop-scan.invariant, ap (λ scans. slice_index c.args.lengths.now (get_or scans c.loop-scan.scan-index 0)) e)
