use Rattle.std.proofs.Common.{◌∙◌, ap, subst, sym}
use Rattle.std.specs.Result.{IfOk}
use Rattle.plan_model.specs.Proofs.{OfCrowd, OfTurns, OfTurnsOn, list_value}
use Rattle.leaf_bounds.specs.ListRules.{ListAdded}
use Rattle.leaf_bounds.proofs.ListRows.{for_rank}
use Rattle.leaf_bounds.proofs.list_table.add_list.Goals as goal

pub returns-in-Turns : goal.returns-in-Turns
returns-in-Turns c =
    subst (λ v. IfOk c.add_turns.result (ListAdded c.args.rules.now v c.args.roles.now.items c.add_turns.new.roles.items))
    (ap OfTurns c.deref.ensures.value ∙ sym (ap list_value c.in-Turns.is)) c.add_turns.ensures

pub returns-in-TurnsOn : goal.returns-in-TurnsOn
returns-in-TurnsOn c =
    subst (λ v. IfOk c.add_turns_on.result (ListAdded c.args.rules.now v c.args.roles.now.items c.add_turns_on.new.roles.items))
    (ap (OfTurnsOn c.in-TurnsOn.rank) c.deref-in-TurnsOn.ensures.value ∙ sym (ap list_value c.in-TurnsOn.is))
    (for_rank c.add_turns_on.result (λ rank. ListAdded c.args.rules.now (OfTurnsOn rank c.deref-in-TurnsOn.result.now) c.args.roles.now.items c.add_turns_on.new.roles.items) c.in-TurnsOn.rank c.add_turns_on.ensures)

pub returns-in-Crowd : goal.returns-in-Crowd
returns-in-Crowd c =
    subst (λ v. IfOk c.add_crowd.result (ListAdded c.args.rules.now v c.args.roles.now.items c.add_crowd.new.roles.items))
    (ap (OfCrowd c.in-Crowd.most) c.deref-in-Crowd.ensures.value ∙ sym (ap list_value c.in-Crowd.is)) c.add_crowd.ensures

pub returns-in-Power : goal.returns-in-Power
returns-in-Power c =
    subst (λ v. IfOk c.add_power.result (ListAdded c.args.rules.now v c.args.roles.now.items c.add_power.new.roles.items)) (sym (ap list_value c.in-Power.is)) c.add_power.ensures
