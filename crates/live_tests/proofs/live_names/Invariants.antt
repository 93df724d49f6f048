use Rattle.std.proofs.Common.{◌≡◌, ◌++◌, map}
use Rattle.std.specs.List.{flat_map}
use Rattle.soc_model.specs.Chips.{soc_value, module_value}
use Rattle.plan_model.specs.Rules.{live_ids}
use Rattle.live_tests.specs.Names.{names_in}
use Rattle.live_tests.proofs.live_names.Given as goal

abbrev pub invariant-loop-module : goal.invariant-loop-module
invariant-loop-module l = l.names.items ++ flat_map names_in (map module_value l.module-iterator) ≡ live_ids (soc_value l.soc)
