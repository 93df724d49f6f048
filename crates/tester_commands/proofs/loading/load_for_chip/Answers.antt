use Rattle.std.proofs.Common.{rules, ◌≡◌, Err}
use Rattle.soc_model.specs.Chips.{soc_value}
use Rattle.tester_commands.proofs.DataFiles.{data_unread, data_stops, data_refused, data_load_refused, data_looked_at, data_load_looked_at, kept_suits}
use Rattle.tester_commands.proofs.loading.load_for_chip.Goals as goal

pub returns-in_err-bytes-clause-loads : goal.returns-in_err-bytes-clause-loads
returns-in_err-bytes-clause-loads g c =
    let is : c.from_residual.result ≡ Err c.in_err-bytes.field-0.0 = search rules in
    data_unread _ _ _ _ _ c.in_err-bytes.field-0.0 _ c.in_err-bytes.ensures.loads is

pub returns-in_err-bytes-clause-by_loads : goal.returns-in_err-bytes-clause-by_loads
returns-in_err-bytes-clause-by_loads g c =
    let is : c.from_residual.result ≡ Err c.in_err-bytes.field-0.0 = search rules in
    data_stops g.H.Shelf.is_load _ _ _ _ c.in_err-bytes.field-0.0 _ c.in_err-bytes.ensures.by_loads is

pub returns-in-Ok-clause-suits : goal.returns-in-Ok-clause-suits
returns-in-Ok-clause-suits g c = kept_suits (soc_value c.args.soc.now) c.in-Ok.test_data _ c.requires c.suiting.ensures

pub returns-in-Ok-clause-loads : goal.returns-in-Ok-clause-loads
returns-in-Ok-clause-loads g c =
    data_looked_at _ _ c.in_ok-bytes.bytes.items _ _ _ c.in-Ok.test_data _ c.in_ok-bytes.ensures.loads.0 c.in_ok-bytes.ensures.loads.1 c.in-Ok.ensures c.suiting.ensures

pub returns-in-Ok-clause-by_loads : goal.returns-in-Ok-clause-by_loads
returns-in-Ok-clause-by_loads g c =
    data_load_looked_at g.H.Shelf.is_load _ _ c.in_ok-bytes.bytes.items _ _ c.in-Ok.test_data _ c.in_ok-bytes.ensures.by_loads c.in-Ok.ensures c.suiting.ensures

pub returns-in-Err-clause-loads : goal.returns-in-Err-clause-loads
returns-in-Err-clause-loads g c =
    data_refused _ _ c.in_ok-bytes.bytes.items _ _ _ c.in-Err.fault _ c.in_ok-bytes.ensures.loads.0 c.in_ok-bytes.ensures.loads.1 c.in-Err.ensures c.refused_data.ensures

pub returns-in-Err-clause-by_loads : goal.returns-in-Err-clause-by_loads
returns-in-Err-clause-by_loads g c =
    data_load_refused g.H.Shelf.is_load _ _ c.in_ok-bytes.bytes.items _ _ c.in-Err.fault _ c.in_ok-bytes.ensures.by_loads c.in-Err.ensures c.refused_data.ensures
