-- A chip as it is stepped through its plan.
use Rattle.std.specs.Prelude.{◌≡◌, ℕ}
use Rattle.soc_model.specs.Chips.{SocValue}
use Rattle.plan_model.specs.Plans.{PlanValue, planned}
use Rattle.plan_model.specs.Runs.{state_at}
use Rattle.bit_machine.specs.Chips.{ChipValue}
use Rattle.vector_lines.specs.Made.{made_content}
use Rattle.tester_commands.specs.RunCounts.{captures_in, right_loads_in}

-- The chip after `cycle` cycles of the plan's own run: its bits are those of the run, and it has counted the captures so far.
pub record IsAfter (soc : SocValue) (plan : PlanValue) (seed cycle : ℕ) (chip : ChipValue) : Type 0 where
  pub soc_is : chip.soc ≡ soc
  pub plan_is : chip.plan ≡ plan
  pub seed_is : chip.seed ≡ seed
  pub cycle_is : chip.cycle ≡ cycle
  pub state : chip.state ≡ state_at (made_content soc seed) (planned soc plan) cycle
  pub captures : chip.captures ≡ captures_in (planned soc plan) cycle
  pub right_loads : chip.right_loads ≡ right_loads_in (made_content soc seed) (planned soc plan) cycle
