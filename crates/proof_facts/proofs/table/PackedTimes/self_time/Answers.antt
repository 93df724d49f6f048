use Rattle.proof_facts.proofs.ModuleRows.{sound_of, row_found, own_is, own_small}
use Rattle.proof_facts.proofs.table.PackedTimes.self_time.Goals as goal

pub returns-clause-time : goal.returns-clause-time
returns-clause-time c =
    own_is c.args.self.now c.args.place c.index.result.now (row_found c.args.self.now _ c.self.inside.rows.items c.args.place c.index.result.now c.self.view_is c.self.invariant c.index.ensures c.requires.place)

pub returns-clause-small : goal.returns-clause-small
returns-clause-small c =
    own_small c.args.self.now c.args.place c.index.result.now (sound_of c.args.self.now _ c.self.inside.rows.items c.self.view_is c.self.invariant) (row_found c.args.self.now _ c.self.inside.rows.items c.args.place c.index.result.now c.self.view_is c.self.invariant c.index.ensures c.requires.place)
