use Rattle.std.proofs.Common.{arith}
use Rattle.proof_facts.proofs.ModuleRows.{sound_of, row_found, tam_long, tam_is, tam_small}
use Rattle.proof_facts.proofs.table.PackedTimes.tam_time.Goals as goal

pub index-requires-2 : goal.index-requires-2
index-requires-2 c =
    omega (arith, c.index.result.now.tam.ok.0, c.requires.some_wire, c.requires.few_wires, tam_long c.args.self.now c.args.place c.index.result.now (row_found c.args.self.now _ c.self.inside.rows.items c.args.place c.index.result.now c.self.view_is c.self.invariant c.index.ensures c.requires.place))

pub returns-clause-time : goal.returns-clause-time
returns-clause-time c =
    tam_is c.args.self.now c.args.place c.index.result.now (row_found c.args.self.now _ c.self.inside.rows.items c.args.place c.index.result.now c.self.view_is c.self.invariant c.index.ensures c.requires.place) c.args.width c.index-2.result.now c.requires.some_wire c.requires.few_wires c.index-2.ensures

pub returns-clause-small : goal.returns-clause-small
returns-clause-small c =
    tam_small c.args.self.now c.args.place c.index.result.now (sound_of c.args.self.now _ c.self.inside.rows.items c.self.view_is c.self.invariant) (row_found c.args.self.now _ c.self.inside.rows.items c.args.place c.index.result.now c.self.view_is c.self.invariant c.index.ensures c.requires.place) c.args.width c.index-2.result.now c.requires.some_wire c.requires.few_wires c.index-2.ensures
