-- The verdict on a plan from what the stages answer for their rules.
use Rattle.std.proofs.Common.{◌≡◌, ℕ, ◌+◌, ◌<◌, Option, Some, None, refl, ap, ◌∙◌, sym, subst, arith, inl, inr, IfNone, nat_eq, if◌then◌else◌}
use Rattle.std.proofs.lemmas.Bool.{cases_lt}
use Rattle.plan_checker.specs.FaultValues.{fault_value}
use Rattle.plan_checker.specs.declared.PlanFault.{PlanFault}
use Rattle.soc_model.specs.Chips.{SocValue}
use Rattle.plan_model.specs.Plans.{PlanValue, LimitsValue}
use Rattle.plan_model.specs.Rules.{Rule, Widths, Known, Places, Wrappers, Proper, Starts, Wires, Busy, Parents, Precedences, Power, Cycles, Keeps, IsGood}
use Rattle.plan_model.specs.Faults.{IsFault, rank_of}
use Rattle.plan_checker.specs.Stages.{IsStage, KeptTo, IsVerdict}

rule_at : ℕ → Rule
rule_at n = if nat_eq n 1 then Widths else (if nat_eq n 2 then Known else (if nat_eq n 3 then Places else (if nat_eq n 4 then Wrappers else (if nat_eq n 5 then Proper else (if nat_eq n 6 then Starts else
    (if nat_eq n 7 then Wires else (if nat_eq n 8 then Busy else (if nat_eq n 9 then Parents else (if nat_eq n 10 then Precedences else (if nat_eq n 11 then Power else Cycles))))))))))

rule_at_place : (r : Rule) → rule_at (rank_of r) ≡ r
unfolding rule_at
rule_at_place Widths = refl
rule_at_place Known = refl
rule_at_place Places = refl
rule_at_place Wrappers = refl
rule_at_place Proper = refl
rule_at_place Starts = refl
rule_at_place Wires = refl
rule_at_place Busy = refl
rule_at_place Parents = refl
rule_at_place Precedences = refl
rule_at_place Power = refl
rule_at_place Cycles = refl

pub kept_none : (soc : SocValue) (limits : LimitsValue) (plan : PlanValue) → KeptTo soc limits plan 1
kept_none soc limits plan Widths h = absurd (omega arith)
kept_none soc limits plan Known h = absurd (omega arith)
kept_none soc limits plan Places h = absurd (omega arith)
kept_none soc limits plan Wrappers h = absurd (omega arith)
kept_none soc limits plan Proper h = absurd (omega arith)
kept_none soc limits plan Starts h = absurd (omega arith)
kept_none soc limits plan Wires h = absurd (omega arith)
kept_none soc limits plan Busy h = absurd (omega arith)
kept_none soc limits plan Parents h = absurd (omega arith)
kept_none soc limits plan Precedences h = absurd (omega arith)
kept_none soc limits plan Power h = absurd (omega arith)
kept_none soc limits plan Cycles h = absurd (omega arith)

pub kept_more : (soc : SocValue) (limits : LimitsValue) (plan : PlanValue) (r : Rule) → KeptTo soc limits plan (rank_of r) → Keeps soc limits plan r → KeptTo soc limits plan (rank_of r + 1)
kept_more soc limits plan r before here q less = elim (cases_lt (rank_of q) (rank_of r)) [
  | inl earlier ↦ before q earlier
  | inr more ↦
      let place : rank_of q ≡ rank_of r = omega arith in
      let same : q ≡ r = sym (rule_at_place q) ∙ ap rule_at place ∙ rule_at_place r in
      subst (Keeps soc limits plan) (sym same) here
]

-- a stage that answers a fault, where the rules before it are kept
pub fault_here : (soc : SocValue) (limits : LimitsValue) (plan : PlanValue) (r : Rule) (f : PlanFault) → KeptTo soc limits plan (rank_of r) → IsStage soc limits plan r (Some f) → IsFault soc limits plan (fault_value f)
fault_here soc limits plan r f before stage = record {
  keeps_before = λ q less. before q (subst (λ v. rank_of q < v) stage.1 less);
  shows = stage.0;
}

-- all stages have passed
pub good_here : (soc : SocValue) (limits : LimitsValue) (plan : PlanValue) → KeptTo soc limits plan 13 → IsGood soc limits plan
good_here soc limits plan kept Widths = kept Widths (omega arith)
good_here soc limits plan kept Known = kept Known (omega arith)
good_here soc limits plan kept Places = kept Places (omega arith)
good_here soc limits plan kept Wrappers = kept Wrappers (omega arith)
good_here soc limits plan kept Proper = kept Proper (omega arith)
good_here soc limits plan kept Starts = kept Starts (omega arith)
good_here soc limits plan kept Wires = kept Wires (omega arith)
good_here soc limits plan kept Busy = kept Busy (omega arith)
good_here soc limits plan kept Parents = kept Parents (omega arith)
good_here soc limits plan kept Precedences = kept Precedences (omega arith)
good_here soc limits plan kept Power = kept Power (omega arith)
good_here soc limits plan kept Cycles = kept Cycles (omega arith)

-- the last of the stages up to a rule
pub last_stage : (soc : SocValue) (limits : LimitsValue) (plan : PlanValue) (r : Rule) (o : Option PlanFault) → KeptTo soc limits plan (rank_of r) → IsStage soc limits plan r o → IsVerdict soc limits plan (rank_of r + 1) o
last_stage soc limits plan r None before stage = kept_more soc limits plan r before stage
last_stage soc limits plan r (Some f) before stage = fault_here soc limits plan r f before stage

-- the last verdict says that the plan is good
pub good_verdict : (soc : SocValue) (limits : LimitsValue) (plan : PlanValue) (o : Option PlanFault) → IsVerdict soc limits plan 13 o → IfNone o (IsGood soc limits plan)
good_verdict soc limits plan None kept = good_here soc limits plan kept
good_verdict soc limits plan (Some f) fault = tt
