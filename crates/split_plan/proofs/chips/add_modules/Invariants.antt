use Rattle.std.proofs.Common.{map}
use Rattle.soc_model.specs.Chips.{soc_value, module_value}
use Rattle.plan_model.specs.Views.{limits_value}
use Rattle.split_plan.proofs.Making.{IsMaking}
use Rattle.split_plan.proofs.chips.add_modules.Given as goal

abbrev pub invariant-loop-module : goal.invariant-loop-module
invariant-loop-module l = IsMaking (limits_value l.limits) l.most (soc_value l.soc) (soc_value l.made.soc) l.made.cuts.items (map module_value l.module-iterator)
