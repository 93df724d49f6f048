use Rattle.test_data.proofs.AgreeingContents.{agreeing}
use Rattle.test_data.proofs.laws.some_content_agrees.Goals as goal

pub returns : goal.returns
returns c = agreeing
