use Rattle.std.proofs.Common.{◌<◌, length, rules}
use Rattle.leaf_bounds.specs.declared.list_table.Role.TheVariants.{Drawing}
use Rattle.leaf_bounds.proofs.ListRows.{drawing_more}
use Rattle.leaf_bounds.proofs.list_table.push_drawing.Goals as goal

pub loop-tam-preserved : goal.loop-tam-preserved
loop-tam-preserved c =
    let within : c.loop-tam._tam-index < length c.args.tams.now = search rules in
    drawing_more c.args.roles.now.items Drawing c.args.tams.now c.loop-tam._tam-index within c.loop-tam.invariant c.in_ok-push.ensures.ok
