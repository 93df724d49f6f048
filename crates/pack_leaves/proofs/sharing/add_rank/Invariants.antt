use Rattle.std.specs.Prelude.{slice_index}
use Rattle.pack_leaves.specs.Sharings.{IsWithRank}
use Rattle.pack_leaves.proofs.Rows.{IsDone}
use Rattle.pack_leaves.proofs.sharing.add_rank.Given as goal

abbrev pub invariant-loop-x : goal.invariant-loop-x
invariant-loop-x l = IsDone (λ row x n. IsWithRank (slice_index l.worth) row l.span x n) l.end l.x l.initial.row l.row

abbrev pub decreases-loop-x : goal.decreases-loop-x
decreases-loop-x l = l.x
