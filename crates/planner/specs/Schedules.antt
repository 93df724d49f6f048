-- The schedule of a plan: the list schedule of an order, and the rules that it keeps.
use Rattle.std.specs.Prelude.{◌≡◌, ℕ, Bool, List, map}
use Rattle.soc_model.specs.declared.TestId.{TestId}
use Rattle.soc_model.specs.Chips.{SocValue}
use Rattle.plan_model.specs.Plans.{PlanValue, LimitsValue, planned, end_of, greatest}
use Rattle.plan_model.specs.Rules.{Keeps, Starts, Wires, Busy, Parents, Precedences, Power}
use Rattle.resource_table.specs.declared.Placement.{Placement}
use Rattle.resource_table.specs.Jobs.{JobValue, test_at}
use Rattle.resource_table.specs.Schedules.{last_end, IsListSchedule}
use Rattle.planner.specs.Jobs.{job_of}
use Rattle.schedule_search.specs.Found.{IsFound}

-- the start of a placed test, by the test's numbers
abbrev pub start_of : JobValue → Placement → TestId × ℕ
start_of job p = ((test_at job p.test).id, p.start)

-- the starts are those of the list schedule of an order, which takes `cycles` cycles
pub record IsSchedule (job : JobValue) (order : List ℕ) (starts : List (TestId × ℕ)) (cycles : ℕ) : Type 0 where
  pub placed : List Placement
  pub in_order : map (λ (p : Placement). p.test) placed ≡ order
  pub list : IsListSchedule job placed
  pub starts_are : starts ≡ map (start_of job) placed
  pub ends : cycles ≡ last_end job placed

-- The starts of a plan, in their order, are the list schedule of an order of its job that a search finds within the budget
-- of the limits; the plan ends with it.
pub record IsFoundSchedule (soc : SocValue) (limits : LimitsValue) (plan : PlanValue) : Type 0 where
  pub order : List ℕ
  pub starts : List ℕ
  pub complete : Bool
  pub found : IsFound (job_of soc limits plan) limits.budget order starts plan.cycles complete
  pub schedule : IsSchedule (job_of soc limits plan) order plan.starts plan.cycles

-- the starts of placed tests in this order, each with its test
abbrev pub AreStartsOf : JobValue → (order starts : List ℕ) → List (TestId × ℕ) → Type 0
AreStartsOf job order starts listed =
    (placed : List Placement) → map (λ (p : Placement). p.test) placed ≡ order → map (λ (p : Placement). p.start) placed ≡ starts →
    listed ≡ map (start_of job) placed

-- the starts with their tests, and the end of the last one, of an order that a search finds
pub record IsFoundList (job : JobValue) (budget : ℕ) (listed : List (TestId × ℕ)) (cycles : ℕ) : Type 0 where
  pub order : List ℕ
  pub starts : List ℕ
  pub complete : Bool
  pub found : IsFound job budget order starts cycles complete
  pub are : AreStartsOf job order starts listed

-- a plan keeps the rules that look at its starts, and its last test ends after `cycles` cycles
pub record KeepsTimes (soc : SocValue) (limits : LimitsValue) (plan : PlanValue) (cycles : ℕ) : Type 0 where
  pub starts : Keeps soc limits plan Starts
  pub wires : Keeps soc limits plan Wires
  pub busy : Keeps soc limits plan Busy
  pub parents : Keeps soc limits plan Parents
  pub precedences : Keeps soc limits plan Precedences
  pub power : Keeps soc limits plan Power
  pub ends : cycles ≡ greatest (map end_of (planned soc plan))
