-- Precedences and the end, over placed tests.
use Rattle.std.specs.Prelude.{◌≡◌, ℕ, ◌≤◌, Some, List, map, slice_get}
use Rattle.soc_model.specs.declared.TestId.{TestId}
use Rattle.plan_model.specs.Plans.{greatest}
use Rattle.live_tests.specs.declared.placed.PlacedTest.{PlacedTest}

-- the first has ended as the second starts
abbrev pub AreInOrder : List PlacedTest → List (TestId × TestId) → TestId × TestId → Type 0
AreInOrder placed earlier p =
    (i j : ℕ) (a b : PlacedTest) → slice_get placed i ≡ Some a → slice_get placed j ≡ Some b → a.id ≡ p.0 → b.id ≡ p.1 → a.end ≤ b.start

abbrev pub last_end : List PlacedTest → ℕ
last_end placed = greatest (map (λ (j : PlacedTest). j.end) placed)

-- tests at two places are in order
abbrev pub IsInOrderAt : List PlacedTest → ℕ × ℕ → Type 0
IsInOrderAt placed e = (a b : PlacedTest) → slice_get placed e.0 ≡ Some a → slice_get placed e.1 ≡ Some b → a.end ≤ b.start
