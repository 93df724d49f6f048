use Rattle.std.proofs.Common.{take}
use Rattle.leaf_bounds.specs.Takings.{HasSpace, IsAfter}
use Rattle.leaf_bounds.specs.Bits.{IsNamed, IsWithout}
use Rattle.leaf_bounds.proofs.places.take_ranks.Given as goal

abbrev pub invariant-loop-rank : goal.invariant-loop-rank
invariant-loop-rank l = record {
  space : HasSpace l.ranks;
  after : IsAfter l.initial.ranks l.ranks;
  without : IsWithout l.at.modules l.at.place (IsNamed (take l.rank-index l.off)) l.initial.ranks.may.items l.ranks.may.items;
}
