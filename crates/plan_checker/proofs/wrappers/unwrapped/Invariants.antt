use Rattle.std.proofs.Common.{◌++◌, true, false, take, flat_map, Contains}
use Rattle.indexmap.specs.IndexSet.{keys}
use Rattle.soc_model.specs.Chips.{ModuleValue, soc_value}
use Rattle.plan_model.specs.Rules.{mode_pair}
use Rattle.plan_checker.specs.Broken.{EachOf}
use Rattle.plan_checker.proofs.wrappers.unwrapped.Given as goal

abbrev pub invariant-loop-place : goal.invariant-loop-place
invariant-loop-place l = EachOf (Contains (keys l.room)) (flat_map (λ (m : ModuleValue). mode_pair true m ++ mode_pair false m) (take l.place (soc_value l.soc).modules))
