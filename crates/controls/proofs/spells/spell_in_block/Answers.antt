use Rattle.std.proofs.Common.{arith}
use Rattle.controls.proofs.Operations.{goes_on_capturing, goes_on_shifting}
use Rattle.controls.proofs.spells.spell_in_block.Goals as goal

pub returns-then-place-eq0-clause-goes_on : goal.returns-then-place-eq0-clause-goes_on
returns-then-place-eq0-clause-goes_on c = goes_on_capturing c.args.phases.now c.requires.phases.some c.args.cycle c.max-period.ensures c.if-place-eq0.true

pub returns-clause-goes_on : goal.returns-clause-goes_on
returns-clause-goes_on c = goes_on_shifting c.args.phases.now c.requires.phases.some c.args.cycle c.max-period.ensures (omega arith)
