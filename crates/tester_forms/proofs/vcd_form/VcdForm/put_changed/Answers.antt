use Rattle.std.proofs.Common.{◌*◌, subst, arith}
use Rattle.cycle_texts.specs.Rows.{IsPutAt, row_of}
use Rattle.tester_forms.specs.Dumps.{changes, has_changed}
use Rattle.tester_forms.specs.Forms.{control_sources, form_sources}
use Rattle.tester_forms.proofs.Parts.{lines_of}
use Rattle.tester_forms.proofs.VcdPuts.{both_put, change_put, no_change_put}
use Rattle.tester_forms.proofs.vcd_form.VcdForm.put_changed.Goals as goal

pub returns-then-end-time_end-clause-put : goal.returns-then-end-time_end-clause-put
returns-then-end-time_end-clause-put c =
    let self = c.args.self.now in
    let row = row_of c.args.row in
    let p = has_changed (row_of c.args.before) row in
    let first = c.put_time-time_end in
    let second = c.put_wire_changes-wires_end in
    let third = c.put_control_changes-end in
    let controls = subst (λ places. IsPutAt second.result (lines_of p row (2 * self.wires) (control_sources places)) third.result second.new.text third.new.text) c.deref-3.ensures.value third.ensures.put in
    let lines = both_put p row self.wires first.result second.result third.result self.places.items first.new.text second.new.text third.new.text second.ensures.put controls in
    no_change_put c.args.cycle c.args.at first.result third.result (changes p row 0 (form_sources self.wires self.places.items)) c.args.text.now first.new.text third.new.text (omega (arith, c.requires.room)) first.ensures.put lines c.if-end-time_end.true

pub returns-clause-put : goal.returns-clause-put
returns-clause-put c =
    let self = c.args.self.now in
    let row = row_of c.args.row in
    let p = has_changed (row_of c.args.before) row in
    let first = c.put_time-time_end in
    let second = c.put_wire_changes-wires_end in
    let third = c.put_control_changes-end in
    let controls = subst (λ places. IsPutAt second.result (lines_of p row (2 * self.wires) (control_sources places)) third.result second.new.text third.new.text) c.deref-3.ensures.value third.ensures.put in
    let lines = both_put p row self.wires first.result second.result third.result self.places.items first.new.text second.new.text third.new.text second.ensures.put controls in
    change_put c.args.cycle c.args.at first.result third.result (changes p row 0 (form_sources self.wires self.places.items)) c.args.text.now first.new.text third.new.text first.ensures.put lines c.if-end-time_end.false
