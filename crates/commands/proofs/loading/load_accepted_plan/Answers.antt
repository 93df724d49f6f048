use Rattle.std.proofs.Common.{rules, ◌≡◌, Err, subst}
use Rattle.plan_text.specs.Answers.{PlanRead}
use Rattle.plan_model.specs.Views.{plan_value}
use Rattle.commands.proofs.Refusals.{plan_refused, plan_checked, plan_unread, handed_on, placed_on}
use Rattle.commands.proofs.LoadedFiles.{plan_stops, plan_load_checked, plan_load_refused}
use Rattle.commands.proofs.loading.load_accepted_plan.Goals as goal

pub returns-in_err-bytes-clause-loads : goal.returns-in_err-bytes-clause-loads
returns-in_err-bytes-clause-loads g c =
    let is : c.from_residual.result ≡ Err c.in_err-bytes.field-0.0 = search rules in
    plan_unread _ _ _ _ _ _ c.in_err-bytes.field-0.0 _ c.in_err-bytes.ensures.loads is

pub returns-in-Ok-clause-loads : goal.returns-in-Ok-clause-loads
returns-in-Ok-clause-loads g c =
    let read = rw c.as_slice.ensures.value at c.in-Ok.ensures in
    plan_checked _ _ _ c.in_ok-bytes.bytes.items _ _ _ (plan_value c.in-Ok.plan) _ c.in_ok-bytes.ensures.loads.0 c.in_ok-bytes.ensures.loads.1 read.said c.accepted_plan.ensures

pub returns-in-Ok-clause-accepted : goal.returns-in-Ok-clause-accepted
returns-in-Ok-clause-accepted g c = handed_on _ _ (plan_value c.in-Ok.plan) _ c.accepted_plan.ensures

pub returns-in-Ok-clause-placed : goal.returns-in-Ok-clause-placed
returns-in-Ok-clause-placed g c = placed_on _ _ (plan_value c.in-Ok.plan) _ c.accepted_plan.ensures

pub returns-clause-loads : goal.returns-clause-loads
returns-clause-loads g c =
    let why = subst (λ bytes. PlanRead bytes (Err c.in-Err.fault)) c.as_slice.ensures.value c.in-Err.ensures in
    plan_refused _ _ _ c.in_ok-bytes.bytes.items _ _ _ c.in-Err.fault _ c.in_ok-bytes.ensures.loads.0 c.in_ok-bytes.ensures.loads.1 why c.refused_plan.ensures

pub returns-in_err-bytes-clause-by_loads : goal.returns-in_err-bytes-clause-by_loads
returns-in_err-bytes-clause-by_loads g c =
    let is : c.from_residual.result ≡ Err c.in_err-bytes.field-0.0 = search rules in
    plan_stops g.H.Shelf.is_load _ _ _ _ _ c.in_err-bytes.field-0.0 _ c.in_err-bytes.ensures.by_loads is

pub returns-in-Ok-clause-by_loads : goal.returns-in-Ok-clause-by_loads
returns-in-Ok-clause-by_loads g c =
    let read = rw c.as_slice.ensures.value at c.in-Ok.ensures in
    plan_load_checked g.H.Shelf.is_load _ _ _ c.in_ok-bytes.bytes.items _ _ (plan_value c.in-Ok.plan) _ c.in_ok-bytes.ensures.by_loads read.said c.accepted_plan.ensures

pub returns-clause-by_loads : goal.returns-clause-by_loads
returns-clause-by_loads g c =
    let why = subst (λ bytes. PlanRead bytes (Err c.in-Err.fault)) c.as_slice.ensures.value c.in-Err.ensures in
    plan_load_refused g.H.Shelf.is_load _ _ _ c.in_ok-bytes.bytes.items _ _ c.in-Err.fault _ c.in_ok-bytes.ensures.by_loads why c.refused_plan.ensures
