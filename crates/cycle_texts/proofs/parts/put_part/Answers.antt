use Rattle.cycle_texts.specs.Rows.{option_row, row_of}
use Rattle.cycle_texts.proofs.BlockRows.{before_fits, row_fits}
use Rattle.cycle_texts.proofs.parts.put_part.Goals as goal

pub put-requires-clause-before : goal.put-requires-clause-before
put-requires-clause-before g c =
    before_fits c.args.block c.args.place (g.F.CycleForm.wires_of c.args.form.now) (g.F.CycleForm.controls_of c.args.form.now) (option_row c.row_before-before.result) c.requires.block c.requires.within c.requires.wires c.requires.width c.row_before-before.ensures

pub put-requires-clause-row : goal.put-requires-clause-row
put-requires-clause-row g c =
    row_fits c.args.block c.args.place (g.F.CycleForm.wires_of c.args.form.now) (g.F.CycleForm.controls_of c.args.form.now) (row_of c.row-row.result) c.requires.block c.requires.within c.requires.wires c.requires.width c.row-row.ensures
