use Rattle.std.proofs.Common.{◌≡◌, length, All}
use Rattle.arch_schedule.specs.Times.{IsRanking}
use Rattle.arch_schedule.proofs.times.rankings_of.Given as goal

abbrev pub invariant-loop-width : goal.invariant-loop-width
invariant-loop-width l = record { long : length l.rankings.items ≡ l.width; rankings : All (IsRanking (length l.problem.modules.items)) l.rankings.items }
