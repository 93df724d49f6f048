use Rattle.std.proofs.Common.{map, take, Contains}
use Rattle.plan_model.specs.declared.Wrapper.{Wrapper}
use Rattle.soc_model.specs.Chips.{soc_value}
use Rattle.plan_checker.specs.Broken.{EachOf}
use Rattle.plan_checker.proofs.known.unknown_of.Given as goal

abbrev pub invariant-loop-wrapper : goal.invariant-loop-wrapper
invariant-loop-wrapper l = EachOf (Contains (soc_value l.soc).keys) (take l.wrapper-index (map (λ (w : Wrapper). w.«module») l.wrappers))
