use Rattle.std.proofs.Common.{map}
use Rattle.soc_model.specs.Chips.{soc_value}
use Rattle.plan_model.specs.Views.{wrapper_value}
use Rattle.plan_model.specs.Rules.{HasProperCells}
use Rattle.plan_model.proofs.FirstBreaches.{EachTo}
use Rattle.plan_checker.proofs.known.check_wrapped.Given as goal

abbrev pub invariant-loop-wrapper : goal.invariant-loop-wrapper
invariant-loop-wrapper l = EachTo (HasProperCells (soc_value l.soc)) (map wrapper_value l.wrappers) l.wrapper-index
