use Rattle.std.specs.Prelude.{slice_index}
use Rattle.pack_leaves.proofs.Rows.{IsFoundTo}
use Rattle.pack_leaves.proofs.sharing.most_with_bus.Given as goal

abbrev pub invariant-loop-width : goal.invariant-loop-width
invariant-loop-width l = IsFoundTo (slice_index l.worth) (slice_index l.row) l.first l.high l.x l.width l.most
