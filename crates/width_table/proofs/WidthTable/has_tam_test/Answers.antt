use Rattle.std.proofs.Common.{ltb, ap, ◌∙◌, subst}
use Rattle.soc_model.specs.Chips.{soc_value}
use Rattle.width_table.specs.Tables.{IsTable}
use Rattle.width_table.proofs.TableLaws.{table_laws}
use Rattle.width_table.proofs.WidthTable.has_tam_test.Goals as goal

pub returns : goal.returns
returns c =
    let laws = subst IsTable c.self.view_is (table_laws (record { soc = soc_value c.self.inside.soc.now; wires = c.self.inside.wires }) c.self.invariant.sound c.self.invariant.some c.self.invariant.few) in
    record { tam = ap (ltb 0) c.time.ensures.time ∙ laws.tested c.args.place c.self.inside.wires c.self.invariant.some }
