use Rattle.plan_model.proofs.LawOfOneTest.{law_of_one_test}
use Rattle.plan_model.proofs.laws.law_of_one_test.Goals as goal

pub returns : goal.returns
returns c = law_of_one_test
