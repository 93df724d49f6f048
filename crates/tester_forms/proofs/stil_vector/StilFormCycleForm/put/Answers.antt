use Rattle.tester_forms.proofs.Puts.{put_then}
use Rattle.tester_forms.specs.StilText.{stil_line}
use Rattle.tester_forms.proofs.stil_vector.StilFormCycleForm.put.Goals as goal

pub returns-clause-put : goal.returns-clause-put
unfolding stil_line
returns-clause-put c = put_then c.put_piece-wires.ensures (put_then c.put_wires-controls.ensures (put_then c.put_controls-end.ensures c.put_piece.ensures))
