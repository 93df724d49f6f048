use Rattle.std.proofs.Common.{take, Contains}
use Rattle.soc_model.specs.Chips.{soc_value}
use Rattle.plan_checker.specs.Broken.{EachOf}
use Rattle.plan_checker.proofs.known.unknown_in.Given as goal

abbrev pub invariant-loop-number : goal.invariant-loop-number
invariant-loop-number l = EachOf (Contains (soc_value l.soc).keys) (take l.number-index l.listed)
