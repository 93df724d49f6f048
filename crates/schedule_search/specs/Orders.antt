-- Orders of the tests of a job, which go by their places in it.
use Rattle.std.specs.Prelude.{◌≡◌, ℕ, ◌<◌, ◌≤◌, ◌⊎◌, List, length}
use Rattle.std.specs.List.{Contains}
use Rattle.plan_model.specs.Rules.{Each, IsNew}
use Rattle.resource_table.specs.Jobs.{JobValue, cycles_of, Precedes}

-- a test that may be taken next: it isn't taken, and all that precede it are
pub record IsReady (job : JobValue) (taken : List ℕ) (test : ℕ) : Type 0 where
  pub in_job : test < length job.tests
  pub new : IsNew taken test
  pub after : (earlier : ℕ) → Precedes job earlier test → Contains taken earlier

-- each test stands after all that precede it, and no test is missing or stands twice
pub record IsTopological (job : JobValue) (order : List ℕ) : Type 0 where
  pub ready : Each (IsReady job) order
  pub whole : (test : ℕ) → test < length job.tests → Contains order test

-- the longer test goes first, and of two that take the same cycles the one that stands first
abbrev pub GoesFirst : JobValue → ℕ → ℕ → Type 0
GoesFirst job a b = (cycles_of job b < cycles_of job a) ⊎ ((cycles_of job a ≡ cycles_of job b) × (a ≤ b))

-- the longest of the tests that may be taken next
pub record IsLongest (job : JobValue) (taken : List ℕ) (test : ℕ) : Type 0 where
  pub ready : IsReady job taken test
  pub first : (other : ℕ) → IsReady job taken other → GoesFirst job test other

-- Again and again the longest test is taken that may be taken next, until all are.
pub record IsFirstOrder (job : JobValue) (order : List ℕ) : Type 0 where
  pub longest : Each (IsLongest job) order
  pub whole : (test : ℕ) → test < length job.tests → Contains order test
