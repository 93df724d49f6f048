use Rattle.std.proofs.Common.{false, true, map, inl, inr, subst, sym, arith, rules}
use Rattle.std.proofs.lemmas.List.{length-map}
use Rattle.leaf_bounds.specs.Lists.{KeptBehind}
use Rattle.plan_model.specs.Proofs.{list_value}
use Rattle.leaf_bounds.specs.ListRules.{ListAdded, chip_ruled, limits_ruled, roles_in}
use Rattle.plan_model.proofs.FirstBreaches.{each_all, each_more, first_here}
use Rattle.leaf_bounds.proofs.ListRows.{made_at, row_more}
use Rattle.leaf_bounds.proofs.list_table.add_lists.Goals as goal

pub loop-place-preserved : goal.loop-place-preserved
loop-place-preserved c =
    let at = made_at list_value c.args.lists.now c.loop-place.place (search rules) c.index-lists-place.is in
    let added =
    subst (ListAdded c.args.rules.now (list_value c.index-lists-place.result) c.loop-place.roles.items c.add_list.new.roles.items) c.if-not-branch.false c.in_ok-add_list.ensures in
    record {
      each = each_more (KeptBehind (chip_ruled c.args.rules.now) (limits_ruled c.args.rules.now)) (map list_value c.args.lists.now) c.loop-place.place (list_value c.index-lists-place.result) c.loop-place.invariant.each at added.0;
      roles = row_more (roles_in c.args.rules.now) (map list_value c.args.lists.now) c.loop-place.place c.args.roles.now.items at c.loop-place.invariant.roles added.1;
    }

pub returns-then-not-branch-clause-first : goal.returns-then-not-branch-clause-first
returns-then-not-branch-clause-first c =
    let at = made_at list_value c.args.lists.now c.loop-place.place (search rules) c.index-lists-place.is in
    let broken =
    subst (ListAdded c.args.rules.now (list_value c.index-lists-place.result) c.loop-place.roles.items c.add_list.new.roles.items) c.if-not-branch.true c.in_ok-add_list.ensures in
    inr (list_value c.index-lists-place.result, first_here (KeptBehind (chip_ruled c.args.rules.now) (limits_ruled c.args.rules.now)) (map list_value c.args.lists.now) c.loop-place.place (list_value c.index-lists-place.result) c.loop-place.invariant.each at broken.0)

pub returns-clause-first : goal.returns-clause-first
returns-clause-first c =
    let long = length-map c.args.lists.now list_value in
    inl (sym long, each_all (KeptBehind (chip_ruled c.args.rules.now) (limits_ruled c.args.rules.now)) (map list_value c.args.lists.now) c.loop-place.place (omega (arith, long, c.loop-place-test.false)) c.loop-place.invariant.each)
