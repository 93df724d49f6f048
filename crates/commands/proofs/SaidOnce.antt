-- A text of a chip, of limits for a chip or of a plan for both says one thing.
use Rattle.std.proofs.Common.{◌≡◌, ℕ, inl, inr, List, None, Some, sym, ◌∙◌, ap}
use Rattle.outside.specs.Words.{words_of}
use Rattle.outside.specs.Grammars.{last_line}
use Rattle.soc_model.specs.Chips.{SocValue}
use Rattle.plan_model.specs.Plans.{LimitsValue, PlanValue}
use Rattle.plan_model.specs.Faults.{FaultValue, IsFault, IsFaultless}
use Rattle.soc_reader.specs.ChipForm.{SaysChip}
use Rattle.soc_reader.proofs.ChipsSaid.{one_chip}
use Rattle.soc_reader.proofs.OneAnswer.{one_line, one_limit, no_line-from_chip, no_line-from_limit, no_limit-from_chip}
use Rattle.limits_text.specs.Answers.{read_as}
use Rattle.limits_text.specs.Laws.{TextsHaveOneAnswer}
use Rattle.plan_text.specs.Laws.{SayOnePlan, PlansAreNotRefused, RefusedOnce}
use Rattle.plan_text.specs.Answers.{SaysPlan, RefusesText}
use Rattle.commands.specs.Texts.{chip_line, chip_limit_line, plan_line, fault_line}
use Rattle.commands.specs.Readings.{RefusesChip, SaysLimits, refusal_of, RefusesLimits, SaysAccepted, RefusesPlan}
use Rattle.commands.specs.Settled.{SaysOne, RefusesOne, FilesSayOneThing}
use Rattle.commands.proofs.Judged.{JudgedLaws, judged_one, judged_refused_one}

-- the laws of the readers and the checker that this rests on
pub record ReaderLaws : Type 0 where
  pub reading : TextsHaveOneAnswer
  pub one_plan : SayOnePlan
  pub not_refused : PlansAreNotRefused
  pub refused_once : RefusedOnce
  pub one_fault : (soc : SocValue) (limits : LimitsValue) (plan : PlanValue) (f g : FaultValue) → IsFault soc limits plan f → IsFault soc limits plan g → f ≡ g
  pub no_fault : (soc : SocValue) (limits : LimitsValue) (plan : PlanValue) (f : FaultValue) → IsFault soc limits plan f → IsFaultless soc limits plan → ⊥

-- ---- chips

chip_refused_one : RefusesOne SaysChip RefusesChip
chip_refused_one = record { one = lines; none = no_chip } where
  lines : (bytes t t' : List ℕ) → RefusesChip bytes t → RefusesChip bytes t' → t ≡ t'
  lines bytes t t' (inl a) (inl b) = a.2 ∙ ap chip_line (one_line bytes a.0 b.0 a.1 b.1) ∙ sym b.2
  lines bytes t t' (inl a) (inr b) = absurd (no_line-from_limit bytes b.0 a.0 b.1 a.1)
  lines bytes t t' (inr a) (inl b) = absurd (no_line-from_limit bytes a.0 b.0 a.1 b.1)
  lines bytes t t' (inr a) (inr b) = a.2 ∙ ap chip_limit_line (one_limit bytes a.0 b.0 a.1 b.1) ∙ sym b.2

  no_chip : (bytes t : List ℕ) (v : SocValue) → RefusesChip bytes t → SaysChip bytes v → ⊥
  no_chip bytes t v (inl a) says = no_line-from_chip bytes v a.0 says a.1
  no_chip bytes t v (inr a) says = no_limit-from_chip bytes v a.0 says a.1

-- ---- limits

limits_one : TextsHaveOneAnswer → (soc : SocValue) → SaysOne (SaysLimits soc)
limits_one law soc bytes v w a b = let same : read_as v ≡ read_as w = law bytes soc (read_as v) (read_as w) a b in cc

limits_refused_one : TextsHaveOneAnswer → (soc : SocValue) → RefusesOne (SaysLimits soc) (RefusesLimits soc)
limits_refused_one law soc = record { one = lines; none = no_limits } where
  lines : (bytes t t' : List ℕ) → RefusesLimits soc bytes t → RefusesLimits soc bytes t' → t ≡ t'
  lines bytes t t' a b =
      let same : a.0 ≡ b.0 = law bytes soc a.0 b.0 a.1 b.1 in
      let texts : Some t ≡ Some t' = sym a.2 ∙ ap refusal_of same ∙ b.2 in
      cc

  no_limits : (bytes t : List ℕ) (v : LimitsValue) → RefusesLimits soc bytes t → SaysLimits soc bytes v → ⊥
  no_limits bytes t v a says =
      let same : a.0 ≡ read_as v = law bytes soc a.0 (read_as v) a.1 says in
      let none : Some t ≡ None = sym a.2 ∙ ap refusal_of same in
      absurd cc

-- ---- plans

-- a plan is refused for a fault
abbrev RefusedPlan : SocValue → LimitsValue → PlanValue → List ℕ → Type 0
RefusedPlan soc limits plan text = (fault : FaultValue) × IsFault soc limits plan fault × (text ≡ fault_line fault)

judged_plans : ReaderLaws → (soc : SocValue) (limits : LimitsValue) → JudgedLaws SaysPlan RefusesText (IsFaultless soc limits) (RefusedPlan soc limits)
judged_plans laws soc limits = record {
  one = λ bytes v w a b. laws.one_plan (words_of bytes) v w a b;
  not_refused = λ bytes line v says refused. laws.not_refused (words_of bytes) (last_line bytes) line (v, says) refused;
  refused_once = λ bytes m n a b. laws.refused_once (words_of bytes) (last_line bytes) m n a b;
  one_line = λ v t t' a b. a.2 ∙ ap fault_line (laws.one_fault soc limits v a.0 b.0 a.1 b.1) ∙ sym b.2;
  not_both = λ bytes v t says right refused. laws.no_fault soc limits v refused.0 refused.1 right;
}

plan_one : ReaderLaws → (soc : SocValue) (limits : LimitsValue) → SaysOne (SaysAccepted soc limits)
plan_one laws soc limits = judged_one SaysPlan RefusesText (IsFaultless soc limits) (RefusedPlan soc limits) (judged_plans laws soc limits)

plan_refused_one : ReaderLaws → (soc : SocValue) (limits : LimitsValue) → RefusesOne (SaysAccepted soc limits) (RefusesPlan soc limits)
plan_refused_one laws soc limits = judged_refused_one SaysPlan RefusesText (IsFaultless soc limits) (RefusedPlan soc limits) plan_line (judged_plans laws soc limits)

-- ---- all three

pub said_once : ReaderLaws → FilesSayOneThing
said_once laws = record {
  chips = one_chip;
  refused_chips = chip_refused_one;
  limits = limits_one laws.reading;
  refused_limits = limits_refused_one laws.reading;
  plans = plan_one laws;
  refused_plans = plan_refused_one laws;
}
