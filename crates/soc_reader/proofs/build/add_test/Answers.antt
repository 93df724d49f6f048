use Rattle.std.proofs.Common.{◌∙◌}
use Rattle.std.proofs.lemmas.Result.{on_ok_weaker}
use Rattle.soc_reader.proofs.Places.{test-there, test-new}
use Rattle.soc_reader.proofs.build.add_test.Goals as goal

pub returns-then-contains-clause-added : goal.returns-then-contains-clause-added
returns-then-contains-clause-added c = test-there c.args.number c.args.numbers.now.set.keys c.args.tests.now.items c.contains.result c.requires c.contains.ensures c.if-contains.true

pub returns-clause-added : goal.returns-clause-added
returns-clause-added c =
    on_ok_weaker c.push.result
    (λ pushed. pushed ∙ test-new c.args.number c.args.numbers.now.set.keys c.args.tests.now.items c.new_test.result c.contains.result c.requires c.contains.ensures c.if-contains.false c.new_test.ensures)
    c.push.ensures.ok
