use Rattle.std.proofs.Common.{◌≡◌, ◌++◌, map, drop}
use Rattle.soc_model.specs.Chips.{LiveTest, soc_value, live_from, live_tests}
use Rattle.leaf_bounds.proofs.list_rules.all_tams.Given as goal

abbrev pub invariant-loop-place : goal.invariant-loop-place
invariant-loop-place l =
    l.tams.items ++ map (λ (x : LiveTest). x.test.tam) (live_from l.place (drop l.place (soc_value l.soc).modules)) ≡ map (λ (x : LiveTest). x.test.tam) (live_tests (soc_value l.soc))
