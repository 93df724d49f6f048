use Rattle.std.proofs.Common.{rules, ◌≡◌, Err}
use Rattle.commands.proofs.Refusals.{soc_refused, chip_unread}
use Rattle.commands.proofs.LoadedFiles.{chip_stops, chip_load_refused}
use Rattle.commands.proofs.loading.load_chip.Goals as goal

pub returns-in_err-bytes-clause-loads : goal.returns-in_err-bytes-clause-loads
returns-in_err-bytes-clause-loads g c =
    let is : c.from_residual.result ≡ Err c.in_err-bytes.field-0.0 = search rules in
    chip_unread _ _ _ _ c.in_err-bytes.field-0.0 _ c.in_err-bytes.ensures.loads is

pub returns-clause-loads : goal.returns-clause-loads
returns-clause-loads g c =
    let why = rw c.as_slice.ensures.value at c.in-Err.ensures.refused in
    soc_refused _ c.in_ok-bytes.bytes.items _ _ _ c.in-Err.fault _ c.in_ok-bytes.ensures.loads.0 c.in_ok-bytes.ensures.loads.1 why c.refused_chip.ensures

pub returns-in_err-bytes-clause-by_loads : goal.returns-in_err-bytes-clause-by_loads
returns-in_err-bytes-clause-by_loads g c =
    let is : c.from_residual.result ≡ Err c.in_err-bytes.field-0.0 = search rules in
    chip_stops g.H.Shelf.is_load _ _ _ c.in_err-bytes.field-0.0 _ c.in_err-bytes.ensures.by_loads is

pub returns-in-Ok-clause-by_loads : goal.returns-in-Ok-clause-by_loads
returns-in-Ok-clause-by_loads g c =
    let says = rw c.as_slice.ensures.value at c.in-Ok.ensures.read in
    record { bytes = c.in_ok-bytes.bytes.items; load = c.in_ok-bytes.ensures.by_loads; says = says }

pub returns-clause-by_loads : goal.returns-clause-by_loads
returns-clause-by_loads g c =
    let why = rw c.as_slice.ensures.value at c.in-Err.ensures.refused in
    chip_load_refused g.H.Shelf.is_load _ c.in_ok-bytes.bytes.items _ _ c.in-Err.fault _ c.in_ok-bytes.ensures.by_loads why c.refused_chip.ensures
