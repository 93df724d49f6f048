-- The kinds of change.
use Rattle.std.specs.Prelude.{ℕ, ◌≤◌, List}
use Rattle.std.specs.List.{Contains}
use Rattle.arch_schedule.specs.declared.kinds.ChangeKind.{ChangeKind}
use Rattle.arch_schedule.specs.declared.kinds.Weighted.{Weighted}

-- each kind stands in a table, with a weight of its own
abbrev pub HasEachKind : List Weighted → Type 0
HasEachKind table = (kind : ChangeKind) → (weight : ℕ) × (1 ≤ weight) × Contains table (record { kind = kind; weight = weight })
