-- What wider slots cost.
use Rattle.std.specs.Prelude.{◌≡◌, ◌≤◌, Option, List, ℕ}
use Rattle.soc_model.specs.Chips.{SocValue}
use Rattle.plan_model.specs.Plans.{LimitsValue}
use Rattle.proof_facts.specs.Packed.{packed_tam_time}
use Rattle.plan_model.specs.Proofs.{ListValue, WeightsValue}
use Rattle.leaf_bounds.specs.Leaves.{slot, cost}

-- where a module takes one time on two widths, it costs no less on the wider, at no lesser rate
abbrev pub WiderSlotsCostNoLess : Type 0
WiderSlotsCostNoLess =
    (soc : SocValue) (limits : LimitsValue) (lists : List ListValue) (weights : WeightsValue) (place : ℕ) (rank : Option ℕ) →
    (narrow wide low_rate high_rate : ℕ) → 1 ≤ narrow → narrow ≤ wide →
    packed_tam_time soc place narrow ≡ packed_tam_time soc place wide → low_rate ≤ high_rate →
    cost soc limits lists weights place (slot rank narrow low_rate) ≤ cost soc limits lists weights place (slot rank wide high_rate)
