-- The starts of live tests at the places of these.
use Rattle.std.specs.Prelude.{◌≡◌, ℕ, Some, List, map, slice_get}
use Rattle.std.specs.List.{Contains}
use Rattle.soc_model.specs.declared.TestId.{TestId}
use Rattle.soc_model.specs.Chips.{same_test}
use Rattle.plan_model.specs.Plans.{of_first}
use Rattle.plan_model.specs.Rules.{IsNew}
use Rattle.plan_checker.specs.declared.starts.TheConstants.{NO_START}

-- a start is of one of these tests, which has none yet
abbrev pub IsOnce : List TestId → List (TestId × ℕ) → TestId × ℕ → Type 0
IsOnce ids earlier s = Contains ids s.0 × IsNew (map (λ (e : TestId × ℕ). e.0) earlier) s.0

-- the start of a test, or what stands where it has none
abbrev pub start_or : ℕ → List (TestId × ℕ) → TestId → ℕ
start_or none starts id = of_first (λ (s : TestId × ℕ). same_test s.0 id) (λ (s : TestId × ℕ). s.1) none starts

-- of each of these tests the start stands at its place
abbrev pub AreStarts : List TestId → List (TestId × ℕ) → List ℕ → Type 0
AreStarts ids starts room = (i : ℕ) (id : TestId) → slice_get ids i ≡ Some id → slice_get room i ≡ Some (start_or NO_START starts id)
