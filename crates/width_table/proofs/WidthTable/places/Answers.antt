use Rattle.std.proofs.Common.{subst}
use Rattle.soc_model.specs.Chips.{soc_value}
use Rattle.width_table.specs.Tables.{IsTable}
use Rattle.width_table.proofs.TableLaws.{table_laws}
use Rattle.width_table.proofs.WidthTable.places.Goals as goal

pub returns-clause-table : goal.returns-clause-table
returns-clause-table c = subst IsTable c.self.view_is (table_laws (record { soc = soc_value c.self.inside.soc.now; wires = c.self.inside.wires }) c.self.invariant.sound c.self.invariant.some c.self.invariant.few)
