use Rattle.std.proofs.Common.{◌≡◌, ◌++◌, Bool, map, take}
use Rattle.leaf_bounds.specs.declared.list_table.Role.TheVariants.{Drawing}
use Rattle.leaf_bounds.proofs.list_table.push_drawing.Given as goal

abbrev pub invariant-loop-tam : goal.invariant-loop-tam
invariant-loop-tam l = l.roles.items ≡ l.initial.roles.items ++ map (λ (tam : Bool). Drawing) (take l._tam-index l.tams)
