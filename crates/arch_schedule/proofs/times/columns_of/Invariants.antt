use Rattle.std.proofs.Common.{◌≡◌, length, All}
use Rattle.arch_schedule.specs.Times.{IsColumn}
use Rattle.arch_schedule.proofs.times.columns_of.Given as goal

abbrev pub invariant-loop-width : goal.invariant-loop-width
invariant-loop-width l = record { long : length l.columns.items ≡ l.width; columns : All (IsColumn (length l.problem.modules.items)) l.columns.items }
