use Rattle.std.proofs.Common.{◌≡◌, ◌++◌, map, take, filter}
use Rattle.soc_model.specs.declared.Test.{Test}
use Rattle.soc_model.specs.Chips.{is_live}
use Rattle.leaf_bounds.proofs.list_rules.push_tams.Given as goal

abbrev pub invariant-loop-test : goal.invariant-loop-test
invariant-loop-test l = l.tams.items ≡ l.initial.tams.items ++ map (λ (t : Test). t.tam) (filter is_live (take l.test-index l.«module».tests.items))
