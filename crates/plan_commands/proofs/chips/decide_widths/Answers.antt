use Rattle.soc_model.specs.Chips.{soc_value}
use Rattle.soc_reader.specs.ChipForm.{SaysChip}
use Rattle.commands.specs.declared.FileKind.TheVariants.{Soc}
use Rattle.commands.specs.Procedures.{done_with}
use Rattle.commands.specs.Readings.{RefusesChip}
use Rattle.commands.proofs.LoadStages.{after_loaded, stops_here, done_loaded}
use Rattle.plan_commands.specs.WidthsText.{widths_text}
use Rattle.plan_commands.proofs.chips.decide_widths.Goals as goal

pub returns-in-Ok-clause-by_loads : goal.returns-in-Ok-clause-by_loads
returns-in-Ok-clause-by_loads g c =
    after_loaded g.H.Shelf.is_load Soc SaysChip RefusesChip c.args.soc.now (λ chip. done_with (widths_text chip c.args.wires)) (soc_value c.in-Ok.chip) c.args.shelf.now c.load_chip.new.shelf c.load_chip.new.shelf c.answered_with.result c.in-Ok.ensures.by_loads
    (done_loaded g.H.Shelf.is_load (widths_text (soc_value c.in-Ok.chip) c.args.wires) c.widths_text.result c.answered_with.result c.load_chip.new.shelf c.widths_text.ensures c.answered_with.ensures)

pub returns-in-Err-clause-by_loads : goal.returns-in-Err-clause-by_loads
returns-in-Err-clause-by_loads g c =
    stops_here g.H.Shelf.is_load Soc SaysChip RefusesChip c.args.soc.now (λ chip. done_with (widths_text chip c.args.wires)) c.args.shelf.now c.load_chip.new.shelf c.in-Err.verdict c.in-Err.ensures.by_loads
