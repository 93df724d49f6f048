use Rattle.tester_forms.proofs.Puts.{put_then}
use Rattle.tester_forms.specs.VerilogText.{verilog_line}
use Rattle.tester_forms.proofs.verilog_form.VerilogFormCycleForm.put.Goals as goal

pub returns-clause-put : goal.returns-clause-put
unfolding verilog_line
returns-clause-put c = put_then c.put_piece-from.ensures (put_then c.put_numbers-end.ensures c.put_piece.ensures)
