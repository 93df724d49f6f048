use Rattle.std.proofs.Common.{◌≡◌, ◌-◌}
use Rattle.width_table.specs.Tables.{time_of}
use Rattle.report.specs.ModuleLines.{first_faster}
use Rattle.report.proofs.modules.first_faster.Given as goal

abbrev pub invariant-loop-width : goal.invariant-loop-width
invariant-loop-width l = first_faster (time_of l.table l.place) l.bound l.width (l.end - l.width) ≡ first_faster (time_of l.table l.place) l.bound l.from (l.end - l.from)
