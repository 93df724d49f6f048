use Rattle.outside.proofs.Refusals.{refused_once}
use Rattle.test_data.specs.DataWords.{InData}
use Rattle.test_data.proofs.laws.data_refused_once.Goals as goal

pub returns : goal.returns
returns c = refused_once InData
