use Rattle.std.proofs.Common.{◌≡◌, length, All}
use Rattle.arch_schedule.specs.Times.{IsRow}
use Rattle.arch_schedule.proofs.times.rows_of.Given as goal

abbrev pub invariant-loop-test : goal.invariant-loop-test
invariant-loop-test l = record { long : length l.rows.items ≡ length l.problem.modules.items; rows : All (IsRow l.problem.wires) l.rows.items }
