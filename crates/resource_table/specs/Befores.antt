-- The tests that precede each test, as lists.
use Rattle.std.specs.Prelude.{◌≡◌, ℕ, ◌<◌, List, [], length, map, nat_eq, slice_index_or}
use Rattle.std.specs.List.{filter}
use Rattle.live_tests.specs.declared.neighbours.Neighbours.{Neighbours}
use Rattle.resource_table.specs.Jobs.{JobValue}

-- the tests that precede a test by these precedences
abbrev pub tests_before : ℕ → List (ℕ × ℕ) → List ℕ
tests_before test before = map (λ (p : ℕ × ℕ). p.0) (filter (λ (p : ℕ × ℕ). nat_eq p.1 test) before)

-- the tests of such a list
abbrev pub listed : Neighbours → List ℕ
listed b = b.tests.items

-- for each test of a job, those that precede it
pub record AreListed (job : JobValue) (lists : List (List ℕ)) : Type 0 where
  pub long : length lists ≡ length job.tests
  pub are : (test : ℕ) → test < length job.tests → slice_index_or lists test [] ≡ tests_before test job.before
