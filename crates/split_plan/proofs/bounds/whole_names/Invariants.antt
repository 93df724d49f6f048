use Rattle.std.proofs.Common.{◌≡◌, take}
use Rattle.split_plan.specs.Steps.{wholes}
use Rattle.split_plan.proofs.bounds.whole_names.Given as goal

abbrev pub invariant-loop-cut : goal.invariant-loop-cut
invariant-loop-cut l = l.names.items ≡ wholes (take l.cut-index l.cuts)
