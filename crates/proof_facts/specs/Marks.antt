-- Tests that are marked, and those that lists of neighbours lead to.
use Rattle.std.specs.Prelude.{◌≡◌, ℕ, ◌+◌, ◌*◌, ◌<◌, ◌≤◌, ◌⊎◌, Bool, true, false, List, [], length, map, nat_eq, slice_index_or, if◌then◌else◌}
use Rattle.std.specs.List.{sum_by, list_any, All}
use Rattle.live_tests.specs.declared.neighbours.Neighbours.{Neighbours}
use Rattle.live_tests.specs.Neighbours.{tests_of, after, before}

-- the place is marked
abbrev pub is_marked : List Bool → ℕ → Bool
is_marked marks i = slice_index_or marks i false

-- the test is in the list
abbrev pub is_in : ℕ → List ℕ → Bool
is_in i tests = list_any (λ (t : ℕ). nat_eq t i) tests

-- the neighbours of a test
abbrev pub next_of : List (List ℕ) → ℕ → List ℕ
next_of lists i = slice_index_or lists i []

-- from neighbour to neighbour, one step or more
pub data LedTo (lists : List (List ℕ)) (from : ℕ) : ℕ → Type 0 where
  FirstStep : (j : ℕ) → is_in j (next_of lists from) ≡ true → LedTo lists from j
  LastStep : (k j : ℕ) → LedTo lists from k → is_in j (next_of lists k) ≡ true → LedTo lists from j

-- how many places aren't marked
abbrev pub unmarked : List Bool → ℕ
unmarked marks = sum_by (λ (b : Bool). if b then 0 else 1) marks

-- The tests of a list are marked, and those that weren't are on the stack.
pub record AreMarked (tests : List ℕ) (old new : List Bool) (stack rest : List ℕ) : Type 0 where
  pub long : length new ≡ length old
  pub all : (j : ℕ) → is_in j tests ≡ true → is_marked new j ≡ true
  pub kept : (j : ℕ) → is_marked old j ≡ true → is_marked new j ≡ true
  pub only : (j : ℕ) → is_marked new j ≡ true → (is_marked old j ≡ true) ⊎ (is_in j tests ≡ true)
  pub stacked : (j : ℕ) → is_marked new j ≡ true → (is_marked old j ≡ true) ⊎ (is_in j rest ≡ true)
  pub still : (j : ℕ) → is_in j stack ≡ true → is_in j rest ≡ true
  pub from : (j : ℕ) → is_in j rest ≡ true → (is_in j stack ≡ true) ⊎ (is_in j tests ≡ true)
  pub fewer : length rest + 2 * unmarked new ≤ length stack + 2 * unmarked old

-- the neighbours of each test are among the tests
abbrev pub AreAmong : List Neighbours → Type 0
AreAmong lists = (i j : ℕ) → is_in j (next_of (map tests_of lists) i) ≡ true → j < length lists

-- What is marked so far is led to, and what leads on is on the stack.
pub record IsFlood (lists : List (List ℕ)) (from : ℕ) (marks : List Bool) (stack : List ℕ) : Type 0 where
  pub long : length marks ≡ length lists
  pub within : (j : ℕ) → is_in j stack ≡ true → j < length lists
  pub seen : (j : ℕ) → is_in j stack ≡ true → (j ≡ from) ⊎ LedTo lists from j
  pub sound : (j : ℕ) → is_marked marks j ≡ true → LedTo lists from j
  pub closed : (i : ℕ) → (i ≡ from) ⊎ (is_marked marks i ≡ true) →
      (is_in i stack ≡ true) ⊎ ((j : ℕ) → is_in j (next_of lists i) ≡ true → is_marked marks j ≡ true)

-- for each test the lists have those that the pairs set behind it
pub record AreAfter (pairs : List (ℕ × ℕ)) (lists : List Neighbours) : Type 0 where
  pub within : All (λ (e : ℕ × ℕ). (e.0 < length lists) × (e.1 < length lists)) pairs
  pub lists_are : (i : ℕ) → i < length lists → next_of (map tests_of lists) i ≡ after i pairs

-- for each test the lists have those that the pairs set before it
pub record AreBefore (pairs : List (ℕ × ℕ)) (lists : List Neighbours) : Type 0 where
  pub within : All (λ (e : ℕ × ℕ). (e.0 < length lists) × (e.1 < length lists)) pairs
  pub lists_are : (i : ℕ) → i < length lists → next_of (map tests_of lists) i ≡ before i pairs
