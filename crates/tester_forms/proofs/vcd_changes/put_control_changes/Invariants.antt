use Rattle.std.proofs.Common.{◌+◌, ◌*◌, ◌≤◌, take}
use Rattle.cycle_texts.specs.Rows.{IsPutAt, row_of}
use Rattle.tester_forms.specs.Dumps.{has_changed}
use Rattle.tester_forms.specs.Forms.{control_sources}
use Rattle.tester_forms.proofs.Parts.{lines_of}
use Rattle.tester_forms.proofs.vcd_changes.put_control_changes.Given as goal

abbrev pub invariant-loop-i : goal.invariant-loop-i
invariant-loop-i l = record {
  put : IsPutAt l.at (lines_of (has_changed (row_of l.before) (row_of l.row)) (row_of l.row) l.first (control_sources (take l.i l.places))) l.end l.initial.text l.text;
  within : l.end ≤ l.at + 8 * l.i;
}
