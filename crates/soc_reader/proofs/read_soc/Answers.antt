use Rattle.soc_model.specs.Chips.{soc_value}
use Rattle.soc_reader.proofs.ChipsSaid.{small-from_modules, sound_chip}
use Rattle.soc_reader.proofs.read_soc.Goals as goal

pub check_size-requires : goal.check_size-requires
check_size-requires c = small-from_modules c.args.bytes.now (soc_value c.in-Ok.soc) c.in-Ok.ensures

pub returns-in-Ok-check_size-clause-sound : goal.returns-in-Ok-check_size-clause-sound
returns-in-Ok-check_size-clause-sound c =
    sound_chip c.args.bytes.now (soc_value c.in-Ok.soc) (record { modules = c.in-Ok.ensures; size = c.in-Ok-check_size.ensures.ok })
