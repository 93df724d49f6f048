use Rattle.std.proofs.Common.{◌∙◌, ap, sym, arith, slice_get}
use Rattle.proof_facts.specs.Tables.{TableValue}
use Rattle.soc_model.specs.Chips.{module_value}
use Rattle.proof_facts.proofs.ModuleRows.{row_found, packed_long, packing_is}
use Rattle.proof_facts.proofs.table.PackedTimes.test_time.Goals as goal

pub index-requires : goal.index-requires
index-requires c =
    omega (arith, c.index-row.result.now.packed.ok.0, c.requires.some_wire, c.requires.few_wires, packed_long c.args.self.now c.args.place c.index-row.result.now (row_found c.args.self.now _ c.self.inside.rows.items c.args.place c.index-row.result.now c.self.view_is c.self.invariant c.index-row.ensures c.requires.place))

pub test_time-requires-clause-packing : goal.test_time-requires-clause-packing
test_time-requires-clause-packing c =
    packing_is c.args.self.now c.args.place c.index-row.result.now (module_value c.module_at.result.now) (row_found c.args.self.now _ c.self.inside.rows.items c.args.place c.index-row.result.now c.self.view_is c.self.invariant c.index-row.ensures c.requires.place)
    (ap (λ (t : TableValue). slice_get t.chip.modules c.args.place) (sym c.self.view_is) ∙ c.module_at.ensures) c.args.width c.index.result.now c.requires.some_wire c.requires.few_wires c.index.ensures

pub test_time-requires-clause-work : goal.test_time-requires-clause-work
test_time-requires-clause-work c = c.requires.work (module_value c.module_at.result.now) (ap (λ (t : TableValue). slice_get t.chip.modules c.args.place) (sym c.self.view_is) ∙ c.module_at.ensures)
