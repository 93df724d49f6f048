-- A prefix of an order, with the tests outside it and how many tests each waits for.
use Rattle.std.specs.Prelude.{◌≡◌, ℕ, ◌+◌, ◌<◌, ◌≤◌, Bool, true, false, not, ◌&&◌, nat_eq, List, [], ◌∷◌, ◌++◌, length, map, slice_index_or, vec_capacity, if◌then◌else◌}
use Rattle.std.specs.List.{All, filter, sum_by}
use Rattle.plan_model.specs.Rules.{Each}
use Rattle.resource_table.specs.Jobs.{JobValue}
use Rattle.resource_table.specs.Befores.{tests_before}
use Rattle.schedule_search.specs.declared.prefix.Prefix.{Prefix}
use Rattle.schedule_search.specs.Orders.{IsReady}
use Rattle.schedule_search.specs.Walks.{goes_before, by_length, is_in, may_follow}

-- precedences are between tests of the job
abbrev pub AreInRange : JobValue → Type 0
AreInRange job = All (λ (p : ℕ × ℕ). (p.0 < length job.tests) × (p.1 < length job.tests)) job.before

-- the tests outside a prefix, in the order in which they are tried
abbrev pub outside : JobValue → List ℕ → List ℕ
outside job prefix = filter (λ test. not (is_in prefix test)) (by_length job)

-- the tests that may follow a prefix, in that order
abbrev pub followers : JobValue → List ℕ → List ℕ
followers job prefix = filter (may_follow job prefix) (by_length job)

-- some tests of a job, in that order: those that pass a test
pub record AreSorted (job : JobValue) (tests : List ℕ) : Type 0 where
  pub passes : ℕ → Bool
  pub are : tests ≡ filter passes (by_length job)

-- what passes the second test is what passes the first, but for one
abbrev pub IsWithout : (p q : ℕ → Bool) → ℕ → Type 0
IsWithout p q x = (t : ℕ) → q t ≡ (p t && not (nat_eq x t))

-- of these tests the first `place` are tried before a test, and the others aren't
pub record IsPlaceOf (job : JobValue) (tests : List ℕ) (test place : ℕ) : Type 0 where
  pub most : place ≤ length tests
  pub before : (k : ℕ) → k < place → goes_before job (slice_index_or tests k 0) test ≡ true
  pub behind : (k : ℕ) → place ≤ k → k < length tests → goes_before job (slice_index_or tests k 0) test ≡ false

-- a precedence, seen from its later test
abbrev pub turned : ℕ × ℕ → ℕ × ℕ
turned p = (p.1, p.0)

-- the tests that a test precedes
abbrev pub tests_after : ℕ → List (ℕ × ℕ) → List ℕ
tests_after test before = tests_before test (map turned before)

-- for each test of a job, those that it precedes
pub record AreFollowers (job : JobValue) (lists : List (List ℕ)) : Type 0 where
  pub long : length lists ≡ length job.tests
  pub are : (test : ℕ) → test < length job.tests → slice_index_or lists test [] ≡ tests_after test job.before

-- 1 for a precedence of a test that comes from outside a prefix
abbrev pub one_missing : List ℕ → ℕ → ℕ × ℕ → ℕ
one_missing prefix test p = if nat_eq p.1 test && not (is_in prefix p.0) then 1 else 0

-- how many precedences of a test come from outside a prefix
abbrev pub missing_of : JobValue → List ℕ → ℕ → ℕ
missing_of job prefix test = sum_by (one_missing prefix test) job.before

pub record AreMissing (job : JobValue) (prefix missing : List ℕ) : Type 0 where
  pub long : length missing ≡ length job.tests
  pub are : (test : ℕ) → test < length job.tests → slice_index_or missing test 0 ≡ missing_of job prefix test

-- whether a test is outside a prefix and waits for none, by how many of its precedences are missing
abbrev pub waits_for_none : (prefix missing : List ℕ) → ℕ → Bool
waits_for_none prefix missing test = not (is_in prefix test) && nat_eq (slice_index_or missing test 0) 0

-- all such tests, in the order in which they are tried
abbrev pub all_free : JobValue → (prefix missing : List ℕ) → List ℕ
all_free job prefix missing = filter (waits_for_none prefix missing) (by_length job)

-- how often a number stands in a list
abbrev pub times_in : List ℕ → ℕ → ℕ
times_in numbers n = sum_by (λ m. if nat_eq m n then 1 else 0) numbers

-- no test of a prefix stands in a list
abbrev pub AreApart : (prefix tests : List ℕ) → Type 0
AreApart prefix tests = (n : ℕ) → is_in prefix n ≡ true → times_in tests n ≡ 0

-- numbers by place, each less by how often its place stands in a list
pub record AreLess (old new places : List ℕ) : Type 0 where
  pub long : length new ≡ length old
  pub are : (n : ℕ) → n < length old → slice_index_or new n 0 + times_in places n ≡ slice_index_or old n 0

-- room for the prefixes of `tests` tests
pub record HasPrefixRoom (tests : ℕ) (p : Prefix) : Type 0 where
  pub tests_room : tests ≤ vec_capacity p.tests
  pub rest_room : tests ≤ vec_capacity p.rest
  pub free_room : tests ≤ vec_capacity p.free
  pub missing_room : tests ≤ vec_capacity p.missing

-- It has these tests, which are in order so far, and the others are left.
pub record IsAt (job : JobValue) (path : List ℕ) (p : Prefix) : Type 0 where
  pub tests_are : p.tests.items ≡ path
  pub ready : Each (IsReady job) path
  pub left : length (outside job path) + length path ≡ length job.tests
  pub rest_are : p.rest.items ≡ outside job path
  pub free_are : p.free.items ≡ followers job path
  pub missing_are : AreMissing job path p.missing.items
  pub has_room : HasPrefixRoom (length job.tests) p

-- It has these tests, which are in order with one more behind them, and this one is in none of its lists.
pub record IsOut (job : JobValue) (path : List ℕ) (test : ℕ) (p : Prefix) : Type 0 where
  pub tests_are : p.tests.items ≡ path
  pub ready : Each (IsReady job) (path ++ test ∷ [])
  pub left : length (outside job (path ++ test ∷ [])) + length path + 1 ≡ length job.tests
  pub rest_are : p.rest.items ≡ outside job (path ++ test ∷ [])
  pub free_are : p.free.items ≡ all_free job (path ++ test ∷ []) p.missing.items
  pub missing_are : AreMissing job path p.missing.items
  pub has_room : HasPrefixRoom (length job.tests) p
