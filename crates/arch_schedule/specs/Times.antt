-- The cycles of modules on each width.
use Rattle.std.specs.Prelude.{◌≡◌, ℕ, ◌+◌, ◌<◌, length}
use Rattle.std.specs.List.{All}
use Rattle.arch_schedule.specs.declared.problem.TimedTests.{TimedTests}
use Rattle.arch_schedule.specs.declared.times.ModuleCycles.{ModuleCycles}
use Rattle.arch_schedule.specs.declared.times.Column.{Column}
use Rattle.arch_schedule.specs.declared.times.Ranking.{Ranking}
use Rattle.arch_schedule.specs.declared.times.Times.{Times}

-- the cycles of a module on up to `wires` wires
abbrev pub IsRow : ℕ → ModuleCycles → Type 0
IsRow wires r = length r.cycles.items ≡ wires + 1

-- the cycles of `modules` modules
abbrev pub IsColumn : ℕ → Column → Type 0
IsColumn modules c = length c.cycles.items ≡ modules

-- an order of some of `modules` modules
abbrev pub IsRanking : ℕ → Ranking → Type 0
IsRanking modules r = All (λ m. m < modules) r.modules.items

-- the cycles of each module on each width, with an order of the modules for each width
pub record AreTimes (t : Times) : Type 0 where
  pub rows : All (IsRow t.wires) t.rows.items
  pub as_many_columns : length t.columns.items ≡ t.wires + 1
  pub columns : All (IsColumn (length t.rows.items)) t.columns.items
  pub as_many_rankings : length t.rankings.items ≡ t.wires + 1
  pub rankings : All (IsRanking (length t.rows.items)) t.rankings.items

pub record AreTimesOf (p : TimedTests) (t : Times) : Type 0 where
  pub times : AreTimes t
  pub wires : t.wires ≡ p.wires
  pub modules : length t.rows.items ≡ length p.modules.items
