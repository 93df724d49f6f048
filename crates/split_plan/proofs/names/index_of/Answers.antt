use Rattle.std.proofs.Common.{rules}
use Rattle.soc_model.specs.declared.TestId.{TestId}
use Rattle.live_tests.proofs.NamesPut.{names_more}
use Rattle.split_plan.proofs.names.index_of.Goals as goal

pub loop-name-preserved : goal.loop-name-preserved
loop-name-preserved c =
    let d : TestId = record { «module» = 0; test = 0 } in
    names_more c.args.names.now c.loop-name.ids.keys c.insert.new.self.keys c.loop-name.name-index d c.requires c.loop-name.invariant c.loop-name-test.true (search rules)
