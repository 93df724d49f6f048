use Rattle.std.proofs.Common.{◌^◌, arith}
use Rattle.bound_rules.proofs.Energies.{none_added, next_added, all_added}
use Rattle.bound_rules.proofs.energy.steps_energy.Goals as goal

pub loop-from-init : goal.loop-from-init
loop-from-init c = none_added (λ p. p) (2 ^ 64) c.args.steps.now c.args.length c.requires

pub loop-from-preserved : goal.loop-from-preserved
loop-from-preserved c =
    let few = rw (c.drawn-sum.ensures.drawn, c.min-end.ensures) at c.drawn-sum.ensures.fits in
    rw (c.drawn-sum.ensures.drawn, c.min-end.ensures) (next_added (λ p. p) (2 ^ 64) c.args.steps.now c.args.length c.loop-from.from-index c.loop-from.begun c.loop-from.power c.loop-from.sum (0, 0) c.loop-from-test.true few c.loop-from.invariant)

pub returns : goal.returns
returns c = rw c.drawn.ensures.drawn (all_added (λ p. p) (2 ^ 64) c.args.steps.now c.args.length c.loop-from.from-index c.loop-from.begun c.loop-from.power c.loop-from.sum (omega (arith, c.loop-from-test.false)) c.loop-from.invariant)
