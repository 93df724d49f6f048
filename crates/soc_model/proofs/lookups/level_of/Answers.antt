use Rattle.soc_model.specs.Chips.{soc_value}
use Rattle.soc_model.proofs.Entries.{level-at}
use Rattle.soc_model.proofs.lookups.level_of.Goals as goal

pub returns : goal.returns
returns c = level-at (soc_value c.args.soc.now).modules c.args.place _ c.module_at.ensures
