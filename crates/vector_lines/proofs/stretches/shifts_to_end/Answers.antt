use Rattle.std.proofs.Common.{◌-◌, refl}
use Rattle.vector_lines.proofs.ShiftStretches.{shifts_after}
use Rattle.vector_lines.proofs.stretches.shifts_to_end.Goals as goal

pub returns-then-near-phases-clause-shifts : goal.returns-then-near-phases-clause-shifts
returns-then-near-phases-clause-shifts c = λ n m. shifts_after (c.args.phases.now.so - c.in-Some.near.shifts) c.in-Some.is refl m
