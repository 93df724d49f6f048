use Rattle.std.proofs.Common.{◌≡◌, ◌+◌, length, map, filter, sum_by}
use Rattle.soc_model.specs.Chips.{module_value, soc_value}
use Rattle.soc_model.specs.Modes.{has_tam}
use Rattle.tester_forms.specs.Listings.{ScopesGoOn}
use Rattle.tester_forms.specs.Variables.{live_of_module, module_scopes}
use Rattle.tester_forms.proofs.vcd_definitions.Listing.push_modules.Given as goal

abbrev pub invariant-loop-module : goal.invariant-loop-module
invariant-loop-module l = record {
  on : ScopesGoOn l.initial.self l.self (module_scopes l.wired l.at.run l.at.shift (map module_value l.module-iterator)) (module_scopes l.wired 0 l.runs (soc_value l.soc).modules);
  wired : l.at.wired ≡ l.wired;
  runs : l.at.run + sum_by (λ m. length (live_of_module m)) (map module_value l.module-iterator) ≡ l.runs;
  shifts : l.at.shift + length (filter has_tam (map module_value l.module-iterator)) ≡ l.runs + l.wired;
}
