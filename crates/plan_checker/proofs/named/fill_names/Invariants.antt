use Rattle.std.proofs.Common.{◌≡◌, ◌+◌, ◌≤◌, ◌++◌, length, drop, flat_map}
use Rattle.indexmap.specs.IndexSet.{keys, spare}
use Rattle.soc_model.specs.Chips.{soc_value}
use Rattle.plan_model.specs.Rules.{live_ids}
use Rattle.live_tests.specs.Names.{names_in}
use Rattle.plan_checker.proofs.named.fill_names.Given as goal

abbrev pub invariant-loop-place : goal.invariant-loop-place
invariant-loop-place l = record {
  filled : keys l.names ++ flat_map names_in (drop l.place (soc_value l.soc).modules) ≡ live_ids (soc_value l.soc);
  space : length (keys l.fn.names) + spare l.fn.names ≤ length (keys l.names) + spare l.names;
}
