use Rattle.std.proofs.Common.{◌≡◌, ◌++◌, map, take}
use Rattle.leaf_bounds.specs.ListRules.{member_role}
use Rattle.leaf_bounds.proofs.list_table.push_members.Given as goal

abbrev pub invariant-loop-mark : goal.invariant-loop-mark
invariant-loop-mark l = l.roles.items ≡ l.initial.roles.items ++ map member_role (take l.mark-index l.among)
