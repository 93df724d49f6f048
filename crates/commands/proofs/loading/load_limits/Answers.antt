use Rattle.std.proofs.Common.{rules, ◌≡◌, Ok, Err, subst}
use Rattle.soc_model.specs.Chips.{soc_value}
use Rattle.limits_text.specs.Answers.{LimitsRead}
use Rattle.commands.proofs.Refusals.{limits_refused, limits_unread}
use Rattle.commands.proofs.LoadedFiles.{limits_stop, limits_load_refused}
use Rattle.commands.proofs.loading.load_limits.Goals as goal

pub returns-in_err-bytes-clause-loads : goal.returns-in_err-bytes-clause-loads
returns-in_err-bytes-clause-loads g c =
    let is : c.from_residual.result ≡ Err c.in_err-bytes.field-0.0 = search rules in
    limits_unread _ _ _ _ _ c.in_err-bytes.field-0.0 _ c.in_err-bytes.ensures.loads is

pub returns-clause-loads : goal.returns-clause-loads
returns-clause-loads g c =
    let why = subst (λ bytes. LimitsRead bytes (soc_value c.args.soc.now) (Err c.in-Err.fault)) c.as_slice.ensures.value c.in-Err.ensures.refused in
    limits_refused _ _ c.in_ok-bytes.bytes.items _ _ _ c.in-Err.fault _ c.in_ok-bytes.ensures.loads.0 c.in_ok-bytes.ensures.loads.1 why c.refused_limits.ensures

pub returns-in_err-bytes-clause-by_loads : goal.returns-in_err-bytes-clause-by_loads
returns-in_err-bytes-clause-by_loads g c =
    let is : c.from_residual.result ≡ Err c.in_err-bytes.field-0.0 = search rules in
    limits_stop g.H.Shelf.is_load _ _ _ _ c.in_err-bytes.field-0.0 _ c.in_err-bytes.ensures.by_loads is

pub returns-in-Ok-clause-by_loads : goal.returns-in-Ok-clause-by_loads
returns-in-Ok-clause-by_loads g c =
    let says = subst (λ bytes. LimitsRead bytes (soc_value c.args.soc.now) (Ok c.in-Ok.bounds.limits)) c.as_slice.ensures.value c.in-Ok.ensures.read in
    record { bytes = c.in_ok-bytes.bytes.items; load = c.in_ok-bytes.ensures.by_loads; says = says }

pub returns-clause-by_loads : goal.returns-clause-by_loads
returns-clause-by_loads g c =
    let why = subst (λ bytes. LimitsRead bytes (soc_value c.args.soc.now) (Err c.in-Err.fault)) c.as_slice.ensures.value c.in-Err.ensures.refused in
    limits_load_refused g.H.Shelf.is_load _ _ c.in_ok-bytes.bytes.items _ _ c.in-Err.fault _ c.in_ok-bytes.ensures.by_loads why c.refused_limits.ensures
