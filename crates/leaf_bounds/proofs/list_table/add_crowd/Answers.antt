use Rattle.std.proofs.Common.{◌∙◌, subst}
use Rattle.leaf_bounds.specs.ListRules.{MembersMarked}
use Rattle.leaf_bounds.proofs.ListRows.{crowd_is, crowd_put}
use Rattle.leaf_bounds.proofs.list_table.add_crowd.Goals as goal

pub returns : goal.returns
returns c =
    let h = subst (MembersMarked c.args.rules.now c.args.tests.now) c.in-Some.is c.in_ok-marks.ensures in (
      crowd_is c.args.most h.0 h.1 c.deref.ensures.value (c.in_ok-are_heavy.ensures.yes c.if-not-branch.false),
      crowd_put c.args.rules.now c.args.most c.args.tests.now c.args.roles.now.items (c.deref-2.ensures.value ∙ h.1.among) c.in_ok-push_members.ensures,
    )
