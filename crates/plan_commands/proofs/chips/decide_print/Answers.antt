use Rattle.soc_model.specs.Chips.{soc_value}
use Rattle.soc_reader.specs.ChipForm.{SaysChip}
use Rattle.soc_printer.specs.SocText.{soc_text}
use Rattle.commands.specs.declared.FileKind.TheVariants.{Soc}
use Rattle.commands.specs.Procedures.{done_with}
use Rattle.commands.specs.Readings.{RefusesChip}
use Rattle.commands.proofs.LoadStages.{after_loaded, stops_here, done_loaded}
use Rattle.plan_commands.proofs.chips.decide_print.Goals as goal

pub returns-in-Ok-clause-by_loads : goal.returns-in-Ok-clause-by_loads
returns-in-Ok-clause-by_loads g c =
    after_loaded g.H.Shelf.is_load Soc SaysChip RefusesChip c.args.soc.now (λ chip. done_with (soc_text chip)) (soc_value c.in-Ok.chip) c.args.shelf.now c.load_chip.new.shelf c.load_chip.new.shelf c.answered_with.result c.in-Ok.ensures.by_loads
    (done_loaded g.H.Shelf.is_load (soc_text (soc_value c.in-Ok.chip)) c.print_soc.result c.answered_with.result c.load_chip.new.shelf c.print_soc.ensures.printed c.answered_with.ensures)

pub returns-in-Err-clause-by_loads : goal.returns-in-Err-clause-by_loads
returns-in-Err-clause-by_loads g c =
    stops_here g.H.Shelf.is_load Soc SaysChip RefusesChip c.args.soc.now (λ chip. done_with (soc_text chip)) c.args.shelf.now c.load_chip.new.shelf c.in-Err.verdict c.in-Err.ensures.by_loads
