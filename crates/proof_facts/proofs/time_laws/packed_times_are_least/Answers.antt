use Rattle.proof_facts.proofs.LeastTimes.{packed_over_wires, packed_self_test, packed_time-falls, lower-le-packed, packed_time-le}
use Rattle.proof_facts.proofs.time_laws.packed_times_are_least.Goals as goal

pub returns : goal.returns
returns c = record { over_wires = packed_over_wires; self_tests = packed_self_test; falls = packed_time-falls; lower = lower-le-packed; work = packed_time-le }
