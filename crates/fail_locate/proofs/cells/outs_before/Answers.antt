use Rattle.std.proofs.Common.{◌<◌, length, arith}
use Rattle.std.proofs.lemmas.List.Sums.{sum_by_more, sum_by_more_le}
use Rattle.plan_model.specs.declared.ChainPlan.{ChainPlan}
use Rattle.fail_locate.proofs.cells.outs_before.Goals as goal

pub overflow_add-outs : goal.overflow_add-outs
overflow_add-outs c =
    let within : c.loop-place.place < length c.args.chains.now = omega (arith, c.loop-place-test.true, c.requires.chain) in
    let all = sum_by_more_le (λ (p : ChainPlan). p.outs) c.args.chains.now c.loop-place.place c.index-chains-place.result within in
    omega (arith, all, c.loop-place.invariant, c.requires.fits)

pub loop-place-preserved : goal.loop-place-preserved
loop-place-preserved c =
    let within : c.loop-place.place < length c.args.chains.now = omega (arith, c.loop-place-test.true, c.requires.chain) in
    let more = sum_by_more (λ (p : ChainPlan). p.outs) c.args.chains.now c.loop-place.place c.index-chains-place.result within in
    omega (arith, more, c.loop-place.invariant)
