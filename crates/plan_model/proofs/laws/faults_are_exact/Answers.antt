use Rattle.plan_model.proofs.FaultsAreExact.{one_fault, faulty_is_not_good}
use Rattle.plan_model.proofs.FaultsAreShown.{faultless_or_faulty, good_but_for_bound}
use Rattle.plan_model.proofs.laws.faults_are_exact.Goals as goal

pub returns : goal.returns
returns c = record { one = one_fault; none = faulty_is_not_good; some = faultless_or_faulty; of_bound = good_but_for_bound }
