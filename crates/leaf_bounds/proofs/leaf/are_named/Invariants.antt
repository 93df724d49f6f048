use Rattle.std.proofs.Common.{map, take, All}
use Rattle.plan_model.specs.Proofs.{list_value}
use Rattle.leaf_bounds.specs.LeafSlots.{IsNamed}
use Rattle.leaf_bounds.proofs.leaf.are_named.Given as goal

abbrev pub invariant-loop-item : goal.invariant-loop-item
invariant-loop-item l = All (IsNamed (map list_value l.lists) l.known) (take l.item-index l.uses)
