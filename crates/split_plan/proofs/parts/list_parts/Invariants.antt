use Rattle.std.proofs.Common.{◌≡◌, map, take}
use Rattle.split_plan.specs.Cuts.{live_cuts, pieces, part_at}
use Rattle.split_plan.proofs.parts.list_parts.Given as goal

abbrev pub invariant-loop-cut : goal.invariant-loop-cut
invariant-loop-cut l = l.parts.items ≡ map part_at (pieces (live_cuts (take l.cut-index l.cuts)))
