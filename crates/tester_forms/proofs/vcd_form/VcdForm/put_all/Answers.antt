use Rattle.std.proofs.Common.{◌*◌, true, subst}
use Rattle.cycle_texts.specs.Rows.{IsPutAt, row_of}
use Rattle.tester_forms.specs.Forms.{control_sources}
use Rattle.tester_forms.proofs.Parts.{lines_of}
use Rattle.tester_forms.proofs.VcdPuts.{all_put}
use Rattle.tester_forms.proofs.vcd_form.VcdForm.put_all.Goals as goal

pub returns-clause-put : goal.returns-clause-put
returns-clause-put c =
    let self = c.args.self.now in
    let row = row_of c.args.row in
    let first = c.put_time-time_end in
    let second = c.put_wire_values-wires_end in
    let third = c.put_control_values in
    let controls = subst (λ places. IsPutAt second.result (lines_of (λ s. true) row (2 * self.wires) (control_sources places)) third.result second.new.text third.new.text) c.deref-3.ensures.value third.ensures.put in
    all_put row c.args.cycle self.wires c.args.at first.result second.result third.result self.places.items c.args.text.now first.new.text second.new.text third.new.text first.ensures.put second.ensures.put controls
