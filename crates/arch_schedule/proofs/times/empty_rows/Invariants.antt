use Rattle.std.proofs.Common.{◌≡◌, length, All}
use Rattle.arch_schedule.specs.Times.{IsRow}
use Rattle.arch_schedule.proofs.times.empty_rows.Given as goal

abbrev pub invariant-loop-module : goal.invariant-loop-module
invariant-loop-module l = record { long : length l.rows.items ≡ l._module; rows : All (IsRow l.wires) l.rows.items }
