use Rattle.std.proofs.Common.{◌+◌, true, subst, sym, arith}
use Rattle.cycle_texts.specs.Rows.{row_of}
use Rattle.tester_forms.specs.Forms.{IsCode}
use Rattle.tester_forms.proofs.Parts.{put_none, control_put}
use Rattle.tester_forms.proofs.vcd_changes.put_control_values.Goals as goal

pub loop-i-init : goal.loop-i-init
loop-i-init c = record { put = put_none c.args.at c.args.text.now; within = omega arith }

pub loop-i-preserved : goal.loop-i-preserved
loop-i-preserved c =
    let number = c.args.first + c.loop-i.i in
    let code = subst (IsCode number) (sym c.index-codes-first.is) (c.requires.codes.each number c.index-codes-first.result (omega (arith, c.requires.coded, c.loop-i-test.true))) in
    record {
      put = control_put (λ s. true) (row_of c.args.row) c.args.first c.loop-i.i c.args.at c.loop-i.end c.put_value-end.result c.args.places.now c.args.text.now c.loop-i.text c.put_value-end.new.text c.loop-i-test.true c.loop-i.invariant.put (c.put_value-end.ensures.put number code);
      within = omega (arith, c.loop-i.invariant.within, c.put_value-end.ensures.within);
    }
