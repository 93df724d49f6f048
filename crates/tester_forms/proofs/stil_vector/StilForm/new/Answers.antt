use Rattle.std.proofs.Common.{◌≡◌, ◌∙◌, ap, arith, length}
use Rattle.soc_model.specs.Chips.{soc_value}
use Rattle.controls.specs.Controls.{controls}
use Rattle.tester_forms.proofs.HowMany.{controls-le}
use Rattle.tester_forms.proofs.stil_vector.StilForm.new.Goals as goal

pub invariant_of-result : goal.invariant_of-result
invariant_of-result c =
    let count : c.len.result ≡ length (controls (soc_value c.args.soc.now)) = c.len.ensures ∙ c.in_ok-controls.controls.ok.0 ∙ ap length c.in_ok-controls.ensures in
    record {
      few_wires = omega (arith, c.all_wires-wires.ensures, c.requires.narrow);
      few_controls = omega (arith, count, controls-le (soc_value c.args.soc.now) c.requires.sound);
    }
