use Rattle.std.proofs.Common.{◌≡◌, ◌<◌, ◌≤◌, ℕ, Some, map, slice_get}
use Rattle.bus_proofs.specs.Walks.{named_in}
use Rattle.plan_model.specs.Proofs.{LeafValue, OfLeaf, node_value}
use Rattle.bus_proofs.proofs.check.most_uses.Given as goal

abbrev pub invariant-loop-place : goal.invariant-loop-place
invariant-loop-place l =
    (q : ℕ) (leaf : LeafValue) → q < l.place → slice_get (map node_value l.nodes) q ≡ Some (OfLeaf leaf) → named_in leaf ≤ l.most
