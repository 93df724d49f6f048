use Rattle.controls.proofs.Told.{AreToldTo}
use Rattle.controls.proofs.rows.ControlRows.put_rows.Given as goal

abbrev pub invariant-loop-place : goal.invariant-loop-place
invariant-loop-place l = AreToldTo l.self l.from l.count l.place l.text
