use Rattle.std.proofs.Common.{refl}
use Rattle.leaf_bounds.proofs.ListRows.{power_put}
use Rattle.leaf_bounds.proofs.list_table.add_power.Goals as goal

pub returns : goal.returns
returns c = (c.if-not-is_near.ensures.yes refl, power_put c.args.near c.args.roles.now.items c.requires c.deref.ensures.value c.in_ok-push_drawing.ensures)
