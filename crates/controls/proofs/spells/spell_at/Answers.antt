use Rattle.std.proofs.Common.{arith}
use Rattle.controls.proofs.Operations.{goes_on_loading, goes_on_resting}
use Rattle.controls.proofs.spells.spell_at.Goals as goal

pub returns-then-cycle-phases-clause-goes_on : goal.returns-then-cycle-phases-clause-goes_on
returns-then-cycle-phases-clause-goes_on c = goes_on_resting c.args.phases.now c.args.cycle (omega arith)

pub returns-then-shifted-phases-clause-goes_on : goal.returns-then-shifted-phases-clause-goes_on
returns-then-shifted-phases-clause-goes_on c = goes_on_loading c.args.phases.now c.requires.phases.some c.args.cycle (omega arith) (omega arith)
