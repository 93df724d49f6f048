use Rattle.std.proofs.Common.{◌∙◌, subst}
use Rattle.leaf_bounds.specs.ListRules.{TurnsMarked}
use Rattle.leaf_bounds.proofs.ListRows.{turns_put}
use Rattle.leaf_bounds.proofs.list_table.add_turns.Goals as goal

pub returns : goal.returns
returns c =
    let h = subst (TurnsMarked c.args.rules.now c.args.tests.now) c.in-Some.is c.in_ok-marks.ensures in
    (h.0, turns_put c.args.rules.now c.args.tests.now c.args.roles.now.items (c.deref.ensures.value ∙ h.1.among) c.in_ok-push_members.ensures)
