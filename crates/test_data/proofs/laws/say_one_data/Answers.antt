use Rattle.test_data.proofs.ReadTexts.{say_one}
use Rattle.test_data.proofs.laws.say_one_data.Goals as goal

pub returns : goal.returns
returns c = say_one
