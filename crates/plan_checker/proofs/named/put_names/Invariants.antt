use Rattle.std.proofs.Common.{◌≡◌, ◌+◌, ◌≤◌, ◌++◌, length, map, take, filter}
use Rattle.indexmap.specs.IndexSet.{keys, spare}
use Rattle.soc_model.specs.Chips.{is_live, module_value}
use Rattle.live_tests.specs.Names.{name_in}
use Rattle.plan_checker.proofs.named.put_names.Given as goal

abbrev pub invariant-loop-test : goal.invariant-loop-test
invariant-loop-test l = record {
  filled : keys l.names ≡ keys l.fn.names ++ map (name_in (module_value l.«module»)) (filter is_live (take l.test-index l.«module».tests.items));
  space : length (keys l.fn.names) + spare l.fn.names ≤ length (keys l.names) + spare l.names;
}
