use Rattle.soc_reader.specs.Views.{value_of}
use Rattle.soc_reader.specs.Meaning.{test_says}
use Rattle.soc_reader.proofs.Places.{test-changed, test-missing}
use Rattle.soc_reader.proofs.build.give_test_at.Goals as goal

pub returns-in-Some : goal.returns-in-Some
returns-in-Some c =
    test-changed c.args.number c.in-Some.place (test_says c.args.key (value_of c.args.value.now)) c.args.numbers.now.set.keys c.args.tests.now.items c.test_place.result c.index_mut.result.now c.give_test.new.test c.requires c.test_place.ensures c.in-Some.is c.index_mut.ensures.value c.give_test.ensures

pub returns-in_default : goal.returns-in_default
returns-in_default c =
    test-missing c.args.number (test_says c.args.key (value_of c.args.value.now)) c.args.numbers.now.set.keys c.args.tests.now.items c.test_place.result c.requires c.test_place.ensures c.in_default.is
