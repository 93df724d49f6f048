-- What a chip under test keeps from cycle to cycle.
use Rattle.std.specs.Prelude.{◌≡◌, ℕ, ◌+◌, ◌-◌, ◌^◌, ◌≤◌, List, length}
use Rattle.std.specs.List.{sum_by}
use Rattle.soc_model.specs.Chips.{SocValue}
use Rattle.soc_model.specs.SoundChips.{IsSoundChip}
use Rattle.plan_model.specs.Plans.{PlanValue, PlannedTest, planned}
use Rattle.plan_model.specs.Rules.{IsGoodAlone}
use Rattle.vector_lines.specs.Made.{made_content}
use Rattle.vector_lines.specs.Wires.{wires_of}
use Rattle.bit_machine.specs.Machines.{IsMachine}
use Rattle.bit_machine.specs.declared.machine.Machine.{Machine}

-- the cycles that the tests still take, all together
abbrev pub to_come : List PlannedTest → ℕ → ℕ
to_come tests c = sum_by (λ (t : PlannedTest). length t.operations - (c - t.start)) tests

-- a chip and its plan, with the machine of its tests under the made contents, and room for the captures to come
pub record IsChip (soc : SocValue) (plan : PlanValue) (seed : ℕ) (m : Machine) (captures right_loads : ℕ) : Type 0 where
  pub sound : IsSoundChip soc
  pub good : IsGoodAlone soc plan
  pub machine : IsMachine (made_content soc seed) (planned soc plan) m
  pub wires : length m.users.items ≡ wires_of plan
  pub few : right_loads ≤ captures
  pub room : captures + to_come (planned soc plan) m.cycle ≤ 10 ^ 18
