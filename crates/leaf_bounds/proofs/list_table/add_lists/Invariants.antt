use Rattle.std.proofs.Common.{◌≡◌, ◌++◌, map, take, flat_map}
use Rattle.plan_model.specs.Proofs.{list_value}
use Rattle.leaf_bounds.specs.Lists.{KeptBehind}
use Rattle.leaf_bounds.specs.ListRules.{chip_ruled, limits_ruled, roles_in}
use Rattle.plan_model.proofs.FirstBreaches.{EachTo}
use Rattle.leaf_bounds.proofs.list_table.add_lists.Given as goal

abbrev pub invariant-loop-place : goal.invariant-loop-place
invariant-loop-place l = record {
  each : EachTo (KeptBehind (chip_ruled l.rules) (limits_ruled l.rules)) (map list_value l.lists) l.place;
  roles : l.roles.items ≡ l.initial.roles.items ++ flat_map (roles_in l.rules) (take l.place (map list_value l.lists));
}
