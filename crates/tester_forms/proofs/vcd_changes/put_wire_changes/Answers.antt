use Rattle.std.proofs.Common.{arith}
use Rattle.cycle_texts.specs.Rows.{row_of}
use Rattle.tester_forms.specs.Dumps.{has_changed}
use Rattle.tester_forms.proofs.Parts.{put_none, wire_put}
use Rattle.tester_forms.proofs.vcd_changes.put_wire_changes.Goals as goal

pub loop-wire-init : goal.loop-wire-init
loop-wire-init c = record { put = put_none c.args.at c.args.text.now; within = omega arith }

pub loop-wire-preserved : goal.loop-wire-preserved
loop-wire-preserved c = record {
  put = wire_put (has_changed (row_of c.args.before) (row_of c.args.row)) (row_of c.args.row) c.loop-wire.wire c.args.at c.loop-wire.end c.put_wire_change-end.result c.args.text.now c.loop-wire.text c.put_wire_change-end.new.text c.loop-wire.invariant.put c.put_wire_change-end.ensures.put;
  within = omega (arith, c.loop-wire.invariant.within, c.put_wire_change-end.ensures.within);
}
