use Rattle.std.proofs.Common.{length}
use Rattle.leaf_bounds.specs.Bits.{AreAlike}
use Rattle.leaf_bounds.proofs.twins.are_alike.Given as goal

abbrev pub invariant-loop-place : goal.invariant-loop-place
invariant-loop-place l = record {
  alike : AreAlike (length l.wired) l.wired l.ranks.may.items l.rank l.twin l.place;
}
