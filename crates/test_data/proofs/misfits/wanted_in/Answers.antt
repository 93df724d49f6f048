use Rattle.std.proofs.Common.{◌∙◌, arith}
use Rattle.soc_model.specs.Chips.{module_value}
use Rattle.test_data.proofs.ChipBits.{test_here}
use Rattle.test_data.proofs.misfits.wanted_in.Goals as goal

pub returns : goal.returns
returns c = c.wanted_if.ensures ∙ test_here (module_value c.args.«module».now) c.args.«module».now.tests.items c.args.at c.index.result.now (omega arith) c.index.ensures
