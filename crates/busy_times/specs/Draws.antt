-- What tests draw, step by step.
use Rattle.std.specs.Prelude.{ℕ, ◌+◌, ◌<◌, ◌≤◌, ◌&&◌, min, nat_lt, nat_le, List, [], ◌∷◌, map, drop, slice_index_or, if◌then◌else◌}
use Rattle.std.specs.List.{sum_by}
use Rattle.busy_times.specs.declared.power.Draw.{Draw}

-- where a step ends, in cycles after the start: where the next one begins, and with the test at the latest
abbrev pub step_end : (length : ℕ) → (next : List (ℕ × ℕ)) → ℕ
step_end length [] = length
step_end length (s ∷ next) = min s.0 length

-- the draws of a test that starts there
abbrev pub draws_from : (start length : ℕ) → List (ℕ × ℕ) → List Draw
draws_from start length [] = []
draws_from start length (s ∷ next) =
    (record { from = start + s.0; to = start + step_end length next; power = s.1 }) ∷ draws_from start length next

-- the cycles of a test at which what it draws may change: its start, and the end of each draw
abbrev pub marks_from : ℕ → List Draw → List ℕ
marks_from start draws = start ∷ map (λ (d : Draw). d.to) draws

-- what a draw takes at a cycle
abbrev pub taken_by : ℕ → Draw → ℕ
taken_by c d = if nat_le d.from c && nat_lt c d.to then d.power else 0

abbrev pub load_of : List Draw → ℕ → ℕ
load_of draws c = sum_by (taken_by c) draws

-- beside a load, each step of a test from a start stays within a limit at each of its cycles
abbrev pub StepsFit : (load : ℕ → ℕ) (most start length : ℕ) → List (ℕ × ℕ) → Type 0
StepsFit load most start length [] = Unit {0}
StepsFit load most start length (s ∷ next) =
    ((c : ℕ) → start + s.0 ≤ c → c < start + step_end length next → load c + s.1 ≤ most) × StepsFit load most start length next

-- beside a load, the step at a place stays within a limit at each of its cycles, if its test starts there
abbrev pub StepFits : (load : ℕ → ℕ) (most start length place : ℕ) → List (ℕ × ℕ) → Type 0
StepFits load most start length place steps =
    (c : ℕ) → start + (slice_index_or steps place (0, 0)).0 ≤ c → c < start + step_end length (drop (place + 1) steps) →
    load c + (slice_index_or steps place (0, 0)).1 ≤ most
