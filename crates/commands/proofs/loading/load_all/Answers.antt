use Rattle.std.proofs.Common.{rules, ◌≡◌, ◌∙◌, ap, Err}
use Rattle.std.proofs.lemmas.Result.{err_from_is_err_and}
use Rattle.commands.proofs.AllFiles.{all_read, without_both, without_plan}
use Rattle.commands.proofs.LoadedFiles.{three_without_both, three_without_plan}
use Rattle.commands.proofs.loading.load_all.Goals as goal

pub returns-in_err-both-clause-loads : goal.returns-in_err-both-clause-loads
returns-in_err-both-clause-loads g c =
    let is : c.from_residual.result ≡ Err c.in_err-both.field-0.0 = search rules in
    without_both _ _ _ _ _ _ c.in_err-both.field-0.0 _ c.in_err-both.ensures.loads is

pub returns-in_err-plan-clause-loads : goal.returns-in_err-plan-clause-loads
returns-in_err-plan-clause-loads g c =
    let gives = err_from_is_err_and c.from_residual-in_err-plan.result c.from_residual-in_err-plan.ensures.1 in
    let is : c.from_residual-in_err-plan.result ≡ Err c.in_err-plan.field-0.0 = gives.1 ∙ ap Err gives.2 in
    let none = rw c.load_both.ensures.held_stays at c.in_err-plan.ensures.loads in
    without_plan _ _ _ _ _ (g.H.Shelf.faults c.load_both.new.shelf) _ c.in_ok-both.both c.in_err-plan.field-0.0 _ c.load_both.ensures.faults_never_fall c.in_ok-both.ensures.loads none is

pub returns-clause-loads : goal.returns-clause-loads
returns-clause-loads g c =
    let value = rw c.load_both.ensures.held_stays at c.in_ok-plan.ensures.loads in
    all_read _ _ _ _ c.in_ok-both.both c.accepted_for.result _ c.accepted_for.ensures.chip c.accepted_for.ensures.limits c.accepted_for.ensures.plan c.in_ok-both.ensures.loads value

pub returns-in_err-both-clause-by_loads : goal.returns-in_err-both-clause-by_loads
returns-in_err-both-clause-by_loads g c =
    let is : c.from_residual.result ≡ Err c.in_err-both.field-0.0 = search rules in
    three_without_both g.H.Shelf.is_load _ _ _ _ _ c.in_err-both.field-0.0 _ c.in_err-both.ensures.by_loads is

pub returns-in_err-plan-clause-by_loads : goal.returns-in_err-plan-clause-by_loads
returns-in_err-plan-clause-by_loads g c =
    let gives = err_from_is_err_and c.from_residual-in_err-plan.result c.from_residual-in_err-plan.ensures.1 in
    let is : c.from_residual-in_err-plan.result ≡ Err c.in_err-plan.field-0.0 = gives.1 ∙ ap Err gives.2 in
    three_without_plan g.H.Shelf.is_load _ _ _ _ _ _ c.load_both.new.shelf _ c.in_err-plan.field-0.0 _ c.in_ok-both.ensures.by_loads c.in_err-plan.ensures.by_loads is

pub returns-clause-by_loads : goal.returns-clause-by_loads
returns-clause-by_loads g c =
    let e = c.accepted_for.ensures in
    rw (e.chip, e.limits, e.plan) (record { mid = c.load_both.new.shelf; both = c.in_ok-both.ensures.by_loads; plan_is = c.in_ok-plan.ensures.by_loads })
