use Rattle.std.proofs.Common.{refl}
use Rattle.soc_model.specs.Chips.{soc_value}
use Rattle.soc_reader.specs.ChipForm.{SaysChip}
use Rattle.commands.specs.declared.FileKind.TheVariants.{Soc}
use Rattle.commands.specs.Procedures.{Unless, done_with}
use Rattle.commands.specs.Readings.{RefusesChip}
use Rattle.commands.proofs.FileStages.{no_value}
use Rattle.commands.proofs.LoadStages.{stops_here}
use Rattle.tester_commands.specs.MadeText.{made_text, long_data_refusal}
use Rattle.tester_commands.proofs.MadeEndings.{chip_unless, chip_loaded}
use Rattle.tester_commands.proofs.making.decide_data.Goals as goal

pub returns-in-Ok-clause-closes : goal.returns-in-Ok-clause-closes
returns-in-Ok-clause-closes g c = (
  tt,
  chip_unless c.args.soc.now (λ chip. Unless (long_data_refusal (made_text chip c.args.seed)) (done_with (made_text chip c.args.seed))) _ (soc_value c.in-Ok.soc) (long_data_refusal (made_text (soc_value c.in-Ok.soc) c.args.seed)) (made_text (soc_value c.in-Ok.soc) c.args.seed) c.in-Ok.ensures.loads refl,
)

pub returns-in-Err-clause-closes : goal.returns-in-Err-clause-closes
returns-in-Err-clause-closes g c = no_value Soc SaysChip RefusesChip c.args.soc.now (λ chip. Unless (long_data_refusal (made_text chip c.args.seed)) (done_with (made_text chip c.args.seed))) _ _ _ c.in-Err.verdict c.in-Err.ensures.loads

pub returns-in-Ok-clause-by_loads : goal.returns-in-Ok-clause-by_loads
returns-in-Ok-clause-by_loads g c =
    chip_loaded g.H.Shelf.is_load c.args.soc.now (λ chip. Unless (long_data_refusal (made_text chip c.args.seed)) (done_with (made_text chip c.args.seed))) (soc_value c.in-Ok.soc) c.args.shelf.now c.load_chip.new.shelf (long_data_refusal (made_text (soc_value c.in-Ok.soc) c.args.seed)) (made_text (soc_value c.in-Ok.soc) c.args.seed) c.in-Ok.ensures.by_loads refl

pub returns-in-Err-clause-by_loads : goal.returns-in-Err-clause-by_loads
returns-in-Err-clause-by_loads g c =
    stops_here g.H.Shelf.is_load Soc SaysChip RefusesChip c.args.soc.now (λ chip. Unless (long_data_refusal (made_text chip c.args.seed)) (done_with (made_text chip c.args.seed))) c.args.shelf.now c.load_chip.new.shelf c.in-Err.verdict c.in-Err.ensures.by_loads
