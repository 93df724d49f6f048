use Rattle.proof_facts.proofs.Rowing.{AreMarkedTo}
use Rattle.proof_facts.proofs.exclusion_rows.mark_row.Given as goal

abbrev pub invariant-loop-place : goal.invariant-loop-place
invariant-loop-place l = AreMarkedTo l.facts l.power l.test l.ahead l.initial.marks l.marks l.place
