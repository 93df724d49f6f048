use Rattle.std.proofs.Common.{◌≡◌, ◌++◌, take, flat_map}
use Rattle.split_plan.specs.Parts.{chain}
use Rattle.split_plan.proofs.bounds.push_chains.Given as goal

abbrev pub invariant-loop-cut : goal.invariant-loop-cut
invariant-loop-cut l = l.before.items ≡ l.initial.before.items ++ flat_map chain (take l.cut-index l.cuts)
