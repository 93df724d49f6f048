use Rattle.std.proofs.Common.{◌∙◌}
use Rattle.soc_model.proofs.Entries.{found-has}
use Rattle.soc_reader.proofs.totals.has_module_zero.Goals as goal

pub returns : goal.returns
returns c = c.contains_key.ensures ∙ found-has _ c.args.soc.now.modules.entries
