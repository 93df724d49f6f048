-- What a reader of the dump has seen: the values that were written last.
use Rattle.std.specs.Prelude.{ℕ, zero, suc, Option, None, Some, List, [], ◌∷◌, ◌++◌, nat_eq, if◌then◌else◌}
use Rattle.cycle_texts.specs.Rows.{CycleRow}
use Rattle.tester_forms.specs.Dumps.{Change, changes_at}
use Rattle.tester_forms.specs.Variables.{Source}

-- the later one, where there is one
abbrev pub later : (last first : Option ℕ) → Option ℕ
later None first = first
later (Some v) first = Some v

-- the value that was written last for the variable of a number
abbrev pub last_written : (number : ℕ) → List Change → Option ℕ
last_written k [] = None
last_written k (x ∷ xs) = later (last_written k xs) (if nat_eq x.number k then Some x.value else None)

-- the row of the cycle before
abbrev pub row_before : (rows : ℕ → CycleRow) → (cycle : ℕ) → Option CycleRow
row_before rows zero = None
row_before rows (suc c) = Some (rows c)

-- what the parts of the first cycles write
abbrev pub changes_before : (rows : ℕ → CycleRow) → List Source → (cycle : ℕ) → List Change
changes_before rows sources zero = []
changes_before rows sources (suc c) = changes_before rows sources c ++ changes_at (row_before rows c) (rows c) sources
