use Rattle.bus_proofs.proofs.AcceptedProofs.{accepted_bounds}
use Rattle.bus_proofs.proofs.laws.accepted_proofs_are_bounds.Goals as goal

pub returns : goal.returns
returns c = accepted_bounds (record {
  packed = c.planned_tests_are_packed.ensures.over_wires;
  own = c.planned_tests_are_packed.ensures.self_tests;
  apart = c.exclusions_hold.ensures;
  decided = c.exclusions_are_decided.ensures.decided;
  drawn = c.least_powers_are_drawn.ensures;
})
