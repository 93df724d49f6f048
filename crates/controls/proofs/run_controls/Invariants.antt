use Rattle.std.proofs.Common.{◌≡◌, ◌++◌, map, flat_map}
use Rattle.soc_model.specs.Chips.{soc_value, module_value}
use Rattle.plan_model.specs.Rules.{live_ids}
use Rattle.controls.specs.Controls.{run_of, runs_in}
use Rattle.controls.proofs.run_controls.Given as goal

abbrev pub invariant-loop-module : goal.invariant-loop-module
invariant-loop-module l = l.list.items ++ flat_map runs_in (map module_value l.module-iterator) ≡ map run_of (live_ids (soc_value l.soc))
