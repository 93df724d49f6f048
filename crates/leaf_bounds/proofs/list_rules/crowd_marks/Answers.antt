use Rattle.std.proofs.Common.{get_or, subst, take, true, arith}
use Rattle.std.proofs.lemmas.Option.{slice_get-get_or}
use Rattle.soc_model.specs.declared.TestId.{TestId}
use Rattle.leaf_bounds.specs.ListRules.{MemberAdded}
use Rattle.leaf_bounds.proofs.ListRows.{members_all, members_each, members_marked}
use Rattle.leaf_bounds.proofs.list_rules.crowd_marks.Goals as goal

abbrev no_id : TestId
no_id = record { «module» = 0; test = 0 }

pub loop-id-preserved : goal.loop-id-preserved
loop-id-preserved c =
    let at = slice_get-get_or c.args.tests.now c.loop-id.id-index no_id c.loop-id-test.true in
    let added =
    subst (λ b. MemberAdded c.args.rules.now (take c.loop-id.id-index c.args.tests.now) (get_or c.args.tests.now c.loop-id.id-index no_id) c.add_member.new.marks b) c.if-not-branch.false
    (c.in_ok-add_member.ensures (take c.loop-id.id-index c.args.tests.now) c.loop-id.invariant.marks) in
    record {
      marks = members_marked c.args.rules.now c.args.tests.now c.loop-id.id-index c.add_member.new.marks at added;
      each = members_each c.args.rules.now c.args.tests.now c.loop-id.id-index c.add_member.new.marks c.loop-id.invariant.each at added;
    }

pub returns : goal.returns
returns c = members_all c.args.rules.now c.args.tests.now c.loop-id.id-index (omega (arith, c.loop-id-test.false)) c.loop-id.invariant.each c.loop-id.invariant.marks
