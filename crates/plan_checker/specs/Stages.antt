-- What a stage of the checker answers for its rule.
use Rattle.std.specs.Prelude.{◌≡◌, ℕ, ◌<◌, Option, Some, None}
use Rattle.soc_model.specs.Chips.{SocValue}
use Rattle.plan_model.specs.Plans.{PlanValue, LimitsValue}
use Rattle.plan_model.specs.Rules.{Rule, Keeps}
use Rattle.plan_model.specs.Faults.{Shows, IsFault, rank_of, fault_rank}
use Rattle.plan_checker.specs.FaultValues.{fault_value}
use Rattle.plan_checker.specs.declared.PlanFault.{PlanFault}

-- nothing where the plan keeps the rule, else the fault of this rule that shows first
abbrev pub IsStage : SocValue → LimitsValue → PlanValue → Rule → Option PlanFault → Type 0
IsStage soc limits plan r None = Keeps soc limits plan r
IsStage soc limits plan r (Some f) = Shows soc limits plan (fault_value f) × (fault_rank (fault_value f) ≡ rank_of r)

-- the rules before the `n`-th are kept
abbrev pub KeptTo : SocValue → LimitsValue → PlanValue → ℕ → Type 0
KeptTo soc limits plan n = (r : Rule) → rank_of r < n → Keeps soc limits plan r

-- nothing where the rules before the `n`-th are kept, else the fault of the plan
abbrev pub IsVerdict : SocValue → LimitsValue → PlanValue → ℕ → Option PlanFault → Type 0
IsVerdict soc limits plan n None = KeptTo soc limits plan n
IsVerdict soc limits plan n (Some f) = IsFault soc limits plan (fault_value f)
