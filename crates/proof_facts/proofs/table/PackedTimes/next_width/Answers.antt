use Rattle.std.proofs.Common.{◌+◌, arith}
use Rattle.proof_facts.proofs.ModuleRows.{IsNextWidth, changes_found, next_is, row_found, tam_long, wires_few}
use Rattle.proof_facts.proofs.table.PackedTimes.next_width.Goals as goal

pub index-requires-2 : goal.index-requires-2
index-requires-2 c =
    let row = row_found c.args.self.now _ c.self.inside.rows.items c.args.place c.index.result.now c.self.view_is c.self.invariant c.index.ensures c.requires.place in
    let changes = changes_found c.args.self.now _ c.self.inside.rows.items c.args.place c.index.result.now c.self.view_is c.self.invariant c.index.ensures c.requires.place in
    omega (arith, c.index.result.now.next.ok.0, c.requires.some_wire, c.requires.few_wires, tam_long c.args.self.now c.args.place c.index.result.now row, changes.long)

pub overflow_add-result : goal.overflow_add-result
overflow_add-result c =
    let row = row_found c.args.self.now _ c.self.inside.rows.items c.args.place c.index.result.now c.self.view_is c.self.invariant c.index.ensures c.requires.place in
    let changes = changes_found c.args.self.now _ c.self.inside.rows.items c.args.place c.index.result.now c.self.view_is c.self.invariant c.index.ensures c.requires.place in
    let is : IsNextWidth c.args.self.now c.args.place c.args.width (c.index-2.result.now + 1) =
    next_is c.args.self.now c.args.place c.index.result.now row changes c.args.width c.index-2.result.now c.requires.some_wire c.requires.few_wires c.index-2.ensures in
    omega (arith, is.within, wires_few c.args.self.now _ c.self.inside.rows.items c.self.view_is c.self.invariant)

pub returns-clause-wider : goal.returns-clause-wider
returns-clause-wider c =
    let row = row_found c.args.self.now _ c.self.inside.rows.items c.args.place c.index.result.now c.self.view_is c.self.invariant c.index.ensures c.requires.place in
    let changes = changes_found c.args.self.now _ c.self.inside.rows.items c.args.place c.index.result.now c.self.view_is c.self.invariant c.index.ensures c.requires.place in
    let is : IsNextWidth c.args.self.now c.args.place c.args.width (c.index-2.result.now + 1) =
    next_is c.args.self.now c.args.place c.index.result.now row changes c.args.width c.index-2.result.now c.requires.some_wire c.requires.few_wires c.index-2.ensures in
    is.wider

pub returns-clause-within : goal.returns-clause-within
returns-clause-within c =
    let row = row_found c.args.self.now _ c.self.inside.rows.items c.args.place c.index.result.now c.self.view_is c.self.invariant c.index.ensures c.requires.place in
    let changes = changes_found c.args.self.now _ c.self.inside.rows.items c.args.place c.index.result.now c.self.view_is c.self.invariant c.index.ensures c.requires.place in
    let is : IsNextWidth c.args.self.now c.args.place c.args.width (c.index-2.result.now + 1) =
    next_is c.args.self.now c.args.place c.index.result.now row changes c.args.width c.index-2.result.now c.requires.some_wire c.requires.few_wires c.index-2.ensures in
    is.within

pub returns-clause-same : goal.returns-clause-same
returns-clause-same c =
    let row = row_found c.args.self.now _ c.self.inside.rows.items c.args.place c.index.result.now c.self.view_is c.self.invariant c.index.ensures c.requires.place in
    let changes = changes_found c.args.self.now _ c.self.inside.rows.items c.args.place c.index.result.now c.self.view_is c.self.invariant c.index.ensures c.requires.place in
    let is : IsNextWidth c.args.self.now c.args.place c.args.width (c.index-2.result.now + 1) =
    next_is c.args.self.now c.args.place c.index.result.now row changes c.args.width c.index-2.result.now c.requires.some_wire c.requires.few_wires c.index-2.ensures in
    is.same

pub returns-clause-other : goal.returns-clause-other
returns-clause-other c =
    let row = row_found c.args.self.now _ c.self.inside.rows.items c.args.place c.index.result.now c.self.view_is c.self.invariant c.index.ensures c.requires.place in
    let changes = changes_found c.args.self.now _ c.self.inside.rows.items c.args.place c.index.result.now c.self.view_is c.self.invariant c.index.ensures c.requires.place in
    let is : IsNextWidth c.args.self.now c.args.place c.args.width (c.index-2.result.now + 1) =
    next_is c.args.self.now c.args.place c.index.result.now row changes c.args.width c.index-2.result.now c.requires.some_wire c.requires.few_wires c.index-2.ensures in
    is.other
