use Rattle.std.proofs.Common.{◌≡◌, take}
use Rattle.split_plan.proofs.names.index_of.Given as goal

abbrev pub invariant-loop-name : goal.invariant-loop-name
invariant-loop-name l = l.ids.keys ≡ take l.name-index l.names
