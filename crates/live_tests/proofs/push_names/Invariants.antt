use Rattle.std.proofs.Common.{◌≡◌, ◌++◌, map, take}
use Rattle.std.specs.List.{filter}
use Rattle.soc_model.specs.Chips.{is_live, module_value}
use Rattle.live_tests.specs.Names.{name_in}
use Rattle.live_tests.proofs.push_names.Given as goal

abbrev pub invariant-loop-test : goal.invariant-loop-test
invariant-loop-test l = l.names.items ≡ l.initial.names.items ++ map (name_in (module_value l.«module»)) (filter is_live (take l.test-index l.«module».tests.items))
