use Rattle.shift_program.proofs.RightOnes.{faultless_are_right, right_are_faultless, right_are_long}
use Rattle.shift_program.proofs.laws.faultless_programs_are_right.Goals as goal

pub returns-clause-right : goal.returns-clause-right
returns-clause-right c = faultless_are_right

pub returns-clause-faultless : goal.returns-clause-faultless
returns-clause-faultless c = right_are_faultless

pub returns-clause-long : goal.returns-clause-long
returns-clause-long c = right_are_long
