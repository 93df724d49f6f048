use Rattle.std.proofs.Common.{◌≡◌, ◌++◌, take}
use Rattle.std.specs.List.{flat_map}
use Rattle.live_tests.specs.Placed.{placed_tests}
use Rattle.chart.specs.ChartText.{start_row}
use Rattle.chart.proofs.push_rows.Given as goal

abbrev pub invariant-loop-id : goal.invariant-loop-id
invariant-loop-id l =
    l.text.items ≡ l.initial.text.items ++ flat_map (start_row l.placed.plan.cycles (placed_tests l.placed.soc l.placed.plan)) (take l.id-index l.placed.plan.starts)
