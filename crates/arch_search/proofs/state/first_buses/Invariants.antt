use Rattle.arch_search.specs.States.{AreFirstBuses}
use Rattle.arch_search.proofs.state.first_buses.Given as goal

abbrev pub invariant-loop-test : goal.invariant-loop-test
invariant-loop-test l = AreFirstBuses l.problem l.buses l.left
