use Rattle.std.proofs.Common.{◌-◌, refl, arith}
use Rattle.vector_lines.proofs.LinesOfTests.{columns_fit, stretch_all, one_all}
use Rattle.vector_lines.proofs.stretches.put_stretch.Goals as goal

pub returns-in-Shift-clause-played : goal.returns-in-Shift-clause-played
returns-in-Shift-clause-played g c = λ content marks tests i t h.
    stretch_all c.args.text.now h c.args.cycle c.requires.begun (omega (arith, c.min.ensures, c.min-count.ensures, c.requires.ends))
    (λ n less. c.shifts_to_come-to_come.ensures.shifts (c.args.cycle - c.args.lane.now.start) c.in-Shift.ensures n (omega (arith, less, c.min.ensures, c.min-count.ensures)))
    (columns_fit c.requires.lane c.requires.tam) c.put_chains.ensures c.requires.tam

pub returns-in-Setup-clause-played : goal.returns-in-Setup-clause-played
returns-in-Setup-clause-played g c = λ content marks tests i t h. one_all c.args.text.now h c.args.cycle c.args.row c.requires.tam c.requires.begun c.in-Setup.ensures refl refl

pub returns-in-Capture-clause-played : goal.returns-in-Capture-clause-played
returns-in-Capture-clause-played g c = λ content marks tests i t h. one_all c.args.text.now h c.args.cycle c.args.row c.requires.tam c.requires.begun c.in-Capture.ensures refl refl
