use Rattle.proof_facts.proofs.PlannedTimes.{planned_packed, planned_self}
use Rattle.proof_facts.proofs.time_laws.planned_tests_are_packed.Goals as goal

pub returns : goal.returns
returns c = record { over_wires = planned_packed; self_tests = λ soc limits plan i l t good. planned_self soc plan i l t }
