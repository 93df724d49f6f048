use Rattle.std.proofs.Common.{◌≡◌, ◌+◌, drop, length, filter}
use Rattle.soc_model.specs.Chips.{is_live}
use Rattle.tester_forms.specs.Listings.{GoesOn}
use Rattle.tester_forms.specs.Variables.{run_variables}
use Rattle.tester_forms.proofs.vcd_definitions.Listing.push_runs.Given as goal

abbrev pub invariant-loop-test : goal.invariant-loop-test
invariant-loop-test l = record {
  on : GoesOn l.initial.self l.self (run_variables l.module l.place (filter is_live (drop l.test-index l.tests))) (run_variables l.module l.run (filter is_live l.tests));
  next : l.place + length (filter is_live (drop l.test-index l.tests)) ≡ l.run + length (filter is_live l.tests);
}
