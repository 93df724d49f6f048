use Rattle.bus_proofs.proofs.AcceptedProofs.{cases_have_none}
use Rattle.bus_proofs.proofs.laws.accepted_cases_have_no_plan.Goals as goal

pub returns : goal.returns
returns c = cases_have_none (record {
  packed = c.planned_tests_are_packed.ensures.over_wires;
  own = c.planned_tests_are_packed.ensures.self_tests;
  apart = c.exclusions_hold.ensures;
  decided = c.exclusions_are_decided.ensures.decided;
  drawn = c.least_powers_are_drawn.ensures;
})
