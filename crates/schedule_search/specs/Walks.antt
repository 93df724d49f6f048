-- The walk over the orders of the tests of a job: all their prefixes, depth first.
use Rattle.std.specs.Prelude.{◌≡◌, ℕ, zero, suc, ◌+◌, ◌<◌, ◌≤◌, ◌⊎◌, Bool, false, not, ◌&&◌, ◌||◌, nat_eq, nat_lt, List, [], ◌∷◌, ◌++◌, length, map, take, if◌then◌else◌}
use Rattle.std.specs.List.{All, Contains, filter, flat_map, list_any, list_all}
use Rattle.resource_table.specs.declared.Placement.{Placement}
use Rattle.resource_table.specs.Jobs.{JobValue, cycles_of}
use Rattle.resource_table.specs.Befores.{tests_before}
use Rattle.resource_table.specs.Schedules.{ready_at, IsListSchedule}
use Rattle.schedule_search.specs.Orders.{IsTopological, IsFirstOrder}
use Rattle.schedule_search.specs.OrderCycles.{Takes}

-- ---- the comparison of orders

-- the longer test goes before, and of two that take the same cycles the one that stands first in the job
abbrev pub goes_before : JobValue → ℕ → ℕ → Bool
goes_before job a b = nat_lt (cycles_of job b) (cycles_of job a) || (nat_eq (cycles_of job a) (cycles_of job b) && nat_lt a b)

-- at the first place where two orders differ, the test of the first one goes before
abbrev pub stands_before : JobValue → List ℕ → List ℕ → Bool
stands_before job [] b = false
stands_before job (x ∷ a) [] = false
stands_before job (x ∷ a) (y ∷ b) = if nat_eq x y then stands_before job a b else goes_before job x y

-- ---- the walk

-- a test put into a list before the first test that it goes before
abbrev pub put_by_length : JobValue → ℕ → List ℕ → List ℕ
put_by_length job test [] = test ∷ []
put_by_length job test (other ∷ tests) = if goes_before job test other then test ∷ other ∷ tests else other ∷ put_by_length job test tests

abbrev pub first_by_length : JobValue → ℕ → List ℕ
first_by_length job zero = []
first_by_length job (suc count) = put_by_length job count (first_by_length job count)

-- all tests of the job in the order in which they are tried: longest first, of the same cycles by their places
abbrev pub by_length : JobValue → List ℕ
by_length job = first_by_length job (length job.tests)

abbrev pub is_in : List ℕ → ℕ → Bool
is_in tests test = list_any (λ (other : ℕ). nat_eq other test) tests

-- a test may follow a prefix: it isn't in it, and all tests that precede it are
abbrev pub may_follow : JobValue → List ℕ → ℕ → Bool
may_follow job prefix test = not (is_in prefix test) && list_all (is_in prefix) (tests_before test job.before)

-- a prefix, and then all that extend it by at most a given number of tests
abbrev pub walk_from : JobValue → ℕ → List ℕ → List (List ℕ)
walk_from job zero prefix = prefix ∷ []
walk_from job (suc more) prefix =
    prefix ∷ flat_map (λ test. walk_from job more (prefix ++ test ∷ [])) (filter (may_follow job prefix) (by_length job))

-- all prefixes of topological orders: the empty one first, and each before those that extend it
abbrev pub walk : JobValue → List (List ℕ)
walk job = walk_from job (length job.tests) []

-- a topological order among the first entries of the walk
pub record IsWithinBudget (job : JobValue) (budget : ℕ) (order : List ℕ) : Type 0 where
  pub topological : IsTopological job order
  pub early : Contains (take budget (walk job)) order

-- ---- shut prefixes and open entries

-- A prefix is shut where some test outside it is ready so late, by the list schedule of the prefix, that with its own
-- cycles it doesn't end before the list schedule of the first order.
pub record IsShut (job : JobValue) (prefix : List ℕ) : Type 0 where
  pub first : List ℕ
  pub is_first : IsFirstOrder job first
  pub cycles : ℕ
  pub takes : Takes job first cycles
  pub placed : List Placement
  pub in_order : map (λ (p : Placement). p.test) placed ≡ prefix
  pub list : IsListSchedule job placed
  pub test : ℕ
  pub in_job : test < length job.tests
  pub outside : Contains prefix test → ⊥
  pub late : cycles ≤ ready_at job placed test + cycles_of job test

-- an entry is open where it extends no shut shorter one
abbrev pub IsOpen : JobValue → List ℕ → Type 0
IsOpen job entry = (n : ℕ) → n < length entry → IsShut job (take n entry) → ⊥

-- the items of the first list stand in the second one, in their order
abbrev pub StandIn : {X : Type 0} → List X → List X → Type 0
StandIn {X} [] ys = Unit {0}
StandIn {X} (x ∷ xs) [] = ⊥
StandIn {X} (x ∷ xs) (y ∷ ys) = ((x ≡ y) × StandIn xs ys) ⊎ StandIn (x ∷ xs) ys

-- more than `budget` entries of the walk are open
pub record HasMoreOpen (job : JobValue) (budget : ℕ) : Type 0 where
  pub entries : List (List ℕ)
  pub in_walk : StandIn entries (walk job)
  pub are_open : All (IsOpen job) entries
  pub more : budget < length entries
