use Rattle.outside.proofs.Refusals.{not_refused}
use Rattle.test_data.specs.DataWords.{InData}
use Rattle.test_data.proofs.laws.data_is_not_refused.Goals as goal

pub returns : goal.returns
returns c = not_refused InData
