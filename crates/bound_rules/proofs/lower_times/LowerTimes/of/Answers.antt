use Rattle.std.proofs.Common.{Some, sym, ap, ◌∙◌}
use Rattle.soc_model.specs.Chips.{soc_value, module_value}
use Rattle.bound_rules.proofs.SoundWork.{measurable}
use Rattle.bound_rules.proofs.lower_times.LowerTimes.of.Goals as goal

pub new-requires : goal.new-requires
new-requires c = measurable (soc_value c.args.soc.now) c.requires.sound c.args.place (module_value c.module_at.result.now) c.module_at.ensures

pub returns : goal.returns
returns c = c.module_at.ensures ∙ ap Some (sym c.new.ensures)
