use Rattle.std.proofs.Common.{arith}
use Rattle.vector_lines.proofs.ShiftStretches.{shifts_before, none_ahead}
use Rattle.vector_lines.proofs.stretches.shifts_to_come.Goals as goal

pub returns-in-Some-clause-shifts : goal.returns-in-Some-clause-shifts
returns-in-Some-clause-shifts c = λ n m. shifts_before c.saturating_add.result c.args.behind c.in-Some.is (omega (arith, c.saturating_add.ensures)) m

pub returns-in-None-clause-shifts : goal.returns-in-None-clause-shifts
returns-in-None-clause-shifts c = λ n m. none_ahead c.shifts_to_end.result c.args.behind c.in-None.is c.shifts_to_end.ensures.shifts m
