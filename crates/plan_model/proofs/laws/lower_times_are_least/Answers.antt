use Rattle.plan_model.proofs.LowerTimes.{least_over_wires, least_self_test}
use Rattle.plan_model.proofs.laws.lower_times_are_least.Goals as goal

pub returns : goal.returns
returns c = record { over_wires = least_over_wires; self_tests = least_self_test }
