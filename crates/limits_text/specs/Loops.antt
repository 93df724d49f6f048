-- Loops of precedences. Live tests go by their places among the live tests, in the order of the chip.
use Rattle.std.specs.Prelude.{◌≡◌, ℕ, ◌+◌, ◌-◌, ◌<◌, ◌≤◌, List, Some, map, length, slice_get}
use Rattle.std.specs.List.{Contains}
use Rattle.soc_model.specs.declared.TestId.{TestId}
use Rattle.soc_model.specs.Chips.{SocValue}
use Rattle.plan_model.specs.Plans.{LimitsValue}
use Rattle.plan_model.specs.Rules.{live_ids}
use Rattle.live_tests.specs.Names.{precedences}

-- A test is taken away once no test that remains precedes it: all that precede it were taken away.
pub data IsTaken (pairs : List (ℕ × ℕ)) : ℕ → Type 0 where
  take_away : (j : ℕ) → ((i : ℕ) → Contains pairs (i, j) → IsTaken pairs i) → IsTaken pairs j

-- a test is never taken away
abbrev pub Remains : List (ℕ × ℕ) → ℕ → Type 0
Remains pairs j = IsTaken pairs j → ⊥

-- the first of `count` tests that remains
pub record IsFirstRemaining (pairs : List (ℕ × ℕ)) (count i : ℕ) : Type 0 where
  pub within : i < count
  pub remains : Remains pairs i
  pub earlier : (k : ℕ) → k < i → IsTaken pairs k

-- the first remaining test that precedes test `j`
pub record IsForerunner (pairs : List (ℕ × ℕ)) (j i : ℕ) : Type 0 where
  pub precedes : Contains pairs (i, j)
  pub remains : Remains pairs i
  pub earlier : (k : ℕ) → k < i → Contains pairs (k, j) → IsTaken pairs k

-- tests from the first remaining one on, after each its forerunner
pub record IsWalk (pairs : List (ℕ × ℕ)) (count : ℕ) (walk : List ℕ) : Type 0 where
  pub begins : (x : ℕ) → slice_get walk 0 ≡ Some x → IsFirstRemaining pairs count x
  pub goes : (k x y : ℕ) → slice_get walk k ≡ Some x → slice_get walk (k + 1) ≡ Some y → IsForerunner pairs x y

-- The walk up to its first test, at place `last`, that equals an earlier one, at place `meets`; the loop is the walk
-- from `last` back to the place after `meets`.
pub record IsFirstLoop (pairs : List (ℕ × ℕ)) (count : ℕ) (circle : List ℕ) : Type 0 where
  pub walk : List ℕ
  pub meets : ℕ
  pub last : ℕ
  pub is_walk : IsWalk pairs count walk
  pub long : length walk ≡ last + 1
  pub before_last : meets < last
  pub again : slice_get walk meets ≡ slice_get walk last
  pub differ : (p q x : ℕ) → p < last → q < last → slice_get walk p ≡ Some x → slice_get walk q ≡ Some x → p ≡ q
  pub loop_long : length circle + meets ≡ last
  pub loop_is : (k : ℕ) → k < length circle → slice_get circle k ≡ slice_get walk (last - k)

-- the tests at these places
abbrev pub AreAt : List TestId → List ℕ → List TestId → Type 0
AreAt ids places tests = map (slice_get ids) places ≡ map Some tests

-- the loop that a chip refuses of limits
abbrev pub IsLoopOf : SocValue → LimitsValue → List TestId → Type 0
IsLoopOf soc limits tests =
    (circle : List ℕ) × IsFirstLoop (precedences soc limits) (length (live_ids soc)) circle × AreAt (live_ids soc) circle tests

-- the tests have ranks that grow with each pair
abbrev pub HasRank : List (ℕ × ℕ) → Type 0
HasRank pairs = (rank : ℕ → ℕ) × ((i j : ℕ) → Contains pairs (i, j) → rank i < rank j)

-- Live tests in a circle, each of them once: each precedes the next by a precedence of the limits, and the last the first.
pub record GoesRound (soc : SocValue) (limits : LimitsValue) (tests : List TestId) : Type 0 where
  pub some : 1 ≤ length tests
  pub live : (k : ℕ) (a : TestId) → slice_get tests k ≡ Some a → Contains (live_ids soc) a
  pub precedes : (k : ℕ) (a b : TestId) → slice_get tests k ≡ Some a → slice_get tests (k + 1) ≡ Some b → Contains limits.before (a, b)
  pub closes : (a b : TestId) → slice_get tests 0 ≡ Some a → slice_get tests (length tests - 1) ≡ Some b → Contains limits.before (b, a)
  pub once : (p q : ℕ) (a : TestId) → slice_get tests p ≡ Some a → slice_get tests q ≡ Some a → p ≡ q
