use Rattle.std.proofs.Common.{◌+◌, ◌*◌, ◌≤◌}
use Rattle.cycle_texts.specs.Rows.{IsPutAt, row_of}
use Rattle.tester_forms.specs.Dumps.{has_changed}
use Rattle.tester_forms.specs.Forms.{wire_sources}
use Rattle.tester_forms.proofs.Parts.{lines_of}
use Rattle.tester_forms.proofs.vcd_changes.put_wire_changes.Given as goal

abbrev pub invariant-loop-wire : goal.invariant-loop-wire
invariant-loop-wire l = record {
  put : IsPutAt l.at (lines_of (has_changed (row_of l.before) (row_of l.row)) (row_of l.row) 0 (wire_sources l.wire)) l.end l.initial.text l.text;
  within : l.end ≤ l.at + 16 * l.wire;
}
