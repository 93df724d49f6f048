use Rattle.test_data.proofs.SuitedData.{suits}
use Rattle.test_data.proofs.laws.data_without_misfit_suits.Goals as goal

pub returns : goal.returns
returns c = suits
