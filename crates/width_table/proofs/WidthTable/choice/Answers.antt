use Rattle.std.proofs.Common.{◌≤◌, ◌<◌, sym, subst, length}
use Rattle.std.specs.Prelude.{slice_get, IfSome}
use Rattle.soc_model.specs.Chips.{soc_value}
use Rattle.width_table.specs.Choices.{IsChoice, AreChoices}
use Rattle.width_table.specs.Tables.{TableValue}
use Rattle.width_table.specs.declared.choosing.Choices.{Choices}
use Rattle.width_table.proofs.LeastWidths.{at_place, choice_at, choices_of_row, row_read, module_there}
use Rattle.width_table.proofs.WidthTable.choice.Goals as goal

pub at-requires-clause-within : goal.at-requires-clause-within
at-requires-clause-within c =
    let place : c.args.place < length (soc_value c.self.inside.soc.now).modules = subst (λ (v : TableValue). c.args.place < length v.soc.modules) (sym c.self.view_is) c.requires.place in
    let wide : c.args.width ≤ c.self.inside.wires = subst (λ (v : TableValue). c.args.width ≤ v.wires) (sym c.self.view_is) c.requires.within in
    let m = module_there (soc_value c.self.inside.soc.now) c.args.place place in
    let row = row_read (soc_value c.self.inside.soc.now) c.self.inside.wires c.self.inside.rows.items c.args.place c.index.result.now m.0 c.self.invariant m.1 c.index.ensures in
    (m.0, c.args.scan, c.self.inside.wires, subst (λ (x : Choices). AreChoices m.0 c.args.scan c.self.inside.wires x.taken.items x.places.items) (sym c.choices.ensures) (choices_of_row m.0 c.self.inside.wires c.args.scan c.index.result.now row), wide)

pub returns : goal.returns
returns c =
    let wide : c.args.width ≤ c.self.inside.wires = subst (λ (v : TableValue). c.args.width ≤ v.wires) (sym c.self.view_is) c.requires.within in
    subst (λ (v : TableValue). IfSome (slice_get v.soc.modules c.args.place) (λ m. IsChoice m c.args.scan c.args.width c.at.result)) c.self.view_is
    (at_place (soc_value c.self.inside.soc.now).modules c.args.place (λ m. IsChoice m c.args.scan c.args.width c.at.result)
    (choice_at (soc_value c.self.inside.soc.now) c.self.inside.wires c.self.inside.rows.items c.args.place c.args.scan c.args.width c.at.result c.index.result.now c.self.invariant c.index.ensures
    (rw c.choices.ensures at c.at.ensures) wide))
