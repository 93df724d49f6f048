use Rattle.shift_program.proofs.Exact.{one_fault, faultless_or_fault}
use Rattle.shift_program.proofs.laws.program_faults_are_exact.Goals as goal

pub returns-clause-one : goal.returns-clause-one
returns-clause-one c = one_fault

pub returns-clause-some : goal.returns-clause-some
returns-clause-some c = faultless_or_fault
