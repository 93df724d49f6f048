use Rattle.std.proofs.Common.{◌≡◌, ◌-◌, ◌≤◌, ◌<◌, sym, subst, arith, length}
use Rattle.std.specs.Prelude.{slice_get, IfSome}
use Rattle.soc_model.specs.Chips.{soc_value}
use Rattle.width_table.specs.Times.{time}
use Rattle.width_table.specs.Choices.{IsRow}
use Rattle.width_table.specs.Tables.{TableValue}
use Rattle.width_table.proofs.LeastWidths.{at_place, row_read, module_there, time_read}
use Rattle.width_table.proofs.TableLaws.{time_there, falls_in, attained_in}
use Rattle.width_table.proofs.WidthTable.time.Goals as goal

pub index-requires-2 : goal.index-requires-2
index-requires-2 c =
    let place : c.args.place < length (soc_value c.self.inside.soc.now).modules = subst (λ (v : TableValue). c.args.place < length v.soc.modules) (sym c.self.view_is) c.requires.place in
    let wide : c.args.width ≤ c.self.inside.wires = subst (λ (v : TableValue). c.args.width ≤ v.wires) (sym c.self.view_is) c.requires.within in
    let m = module_there (soc_value c.self.inside.soc.now) c.args.place place in
    let row : IsRow m.0 c.self.inside.wires c.index.result.now = row_read (soc_value c.self.inside.soc.now) c.self.inside.wires c.self.inside.rows.items c.args.place c.index.result.now m.0 c.self.invariant m.1 c.index.ensures in
    omega (arith, row.times.size, c.index.result.now.times.ok.0, c.requires.some, wide)

pub returns-clause-time : goal.returns-clause-time
returns-clause-time c =
    let wide : c.args.width ≤ c.self.inside.wires = subst (λ (v : TableValue). c.args.width ≤ v.wires) (sym c.self.view_is) c.requires.within in
    time_there c.args.self.now c.args.place c.args.width c.requires.place c.index-2.result.now
    (subst (λ (v : TableValue). IfSome (slice_get v.soc.modules c.args.place) (λ m. c.index-2.result.now ≡ time m c.args.width)) c.self.view_is
    (at_place (soc_value c.self.inside.soc.now).modules c.args.place (λ m. c.index-2.result.now ≡ time m c.args.width) (λ m at.
    let row : IsRow m c.self.inside.wires c.index.result.now = row_read (soc_value c.self.inside.soc.now) c.self.inside.wires c.self.inside.rows.items c.args.place c.index.result.now m c.self.invariant at c.index.ensures in
    time_read m c.self.inside.wires c.args.width (c.args.width - 1) c.index.result.now.times.items c.index-2.result.now c.index-2.result.now row.times c.index-2.ensures (omega (arith, c.requires.some)) wide)))

pub returns-clause-falls : goal.returns-clause-falls
returns-clause-falls c = λ v some le. omega (arith, returns-clause-time c, falls_in c.args.self.now c.args.place v c.args.width some le)

pub returns-clause-attained : goal.returns-clause-attained
returns-clause-attained c = attained_in c.args.self.now c.args.place c.args.width c.index-2.result.now (returns-clause-time c)
