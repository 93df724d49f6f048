use Rattle.std.proofs.Common.{◌≡◌, ◌++◌, map}
use Rattle.std.specs.List.{range_with_len}
use Rattle.chart.specs.ChartText.{mark}
use Rattle.chart.proofs.push_bar.Given as goal

abbrev pub invariant-loop-i : goal.invariant-loop-i
invariant-loop-i l = l.text.items ≡ l.initial.text.items ++ map (mark l.start l.end l.cycles) (range_with_len 0 l.i)
