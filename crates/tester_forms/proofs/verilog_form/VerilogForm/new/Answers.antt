use Rattle.std.proofs.Common.{◌≡◌, ◌∙◌, ap, arith, length}
use Rattle.soc_model.specs.Chips.{soc_value}
use Rattle.controls.specs.Controls.{controls}
use Rattle.tester_forms.proofs.HowMany.{controls-le}
use Rattle.tester_forms.proofs.verilog_form.VerilogForm.new.Goals as goal

pub size_mark-requires-2 : goal.size_mark-requires-2
size_mark-requires-2 c =
    let count : c.len-controls.result ≡ length (controls (soc_value c.args.soc.now)) =
    c.len-controls.ensures ∙ c.in_ok-list.list.ok.0 ∙ ap length c.in_ok-list.ensures in
    omega (arith, count, controls-le (soc_value c.args.soc.now) c.requires.sound)

pub invariant_of-result : goal.invariant_of-result
invariant_of-result c =
    let count : c.len-controls.result ≡ length (controls (soc_value c.args.soc.now)) =
    c.len-controls.ensures ∙ c.in_ok-list.list.ok.0 ∙ ap length c.in_ok-list.ensures in
    record {
      few_wires = omega (arith, c.all_wires-wires.ensures, c.requires.narrow);
      few_controls = omega (arith, count, controls-le (soc_value c.args.soc.now) c.requires.sound);
      wire_mark_is = c.in_ok-wire_mark.ensures.is;
      control_mark_is = c.in_ok-control_mark.ensures.is;
      wire_mark_short = c.in_ok-wire_mark.ensures.short;
      control_mark_short = c.in_ok-control_mark.ensures.short;
    }
