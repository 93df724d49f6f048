-- When the files fix an answer.
use Rattle.std.specs.Prelude.{◌≡◌, ℕ, List, Bool, IsTrue}
use Rattle.soc_model.specs.Chips.{SocValue}
use Rattle.plan_model.specs.Plans.{LimitsValue}
use Rattle.soc_reader.specs.ChipForm.{SaysChip}
use Rattle.commands.specs.declared.Status.{Status}
use Rattle.commands.specs.declared.Status.TheVariants.{Done}
use Rattle.commands.specs.Readings.{RefusesChip, SaysLimits, RefusesLimits, SaysAccepted, RefusesPlan}
use Rattle.commands.specs.Procedures.{Procedure, Read, Unless, Answer, NoCommand}

-- two answers have one status, and one text where that is fixed
abbrev pub AreOne : Bool → Status → List ℕ → Status → List ℕ → Type 0
AreOne fixed s t s' t' = (s ≡ s') × (IsTrue fixed → t ≡ t')

-- a relation of statuses and texts allows at most one
abbrev pub AllowsOne : Bool → (Status → List ℕ → Type 0) → Type 0
AllowsOne fixed A = (s : Status) (t : List ℕ) (s' : Status) (t' : List ℕ) → A s t → A s' t' → AreOne fixed s t s' t'

-- a relation allows no status but Done
abbrev pub OnlyDone : (Status → List ℕ → Type 0) → Type 0
OnlyDone A = (s : Status) (t : List ℕ) → A s t → s ≡ Done

-- the texts of a kind say at most one value
abbrev pub SaysOne : {V : Type 0} → (List ℕ → V → Type 0) → Type 0
SaysOne {V} Says = (bytes : List ℕ) (v w : V) → Says bytes v → Says bytes w → v ≡ w

-- a refusal of a text is one line, and none where the text says a value
pub record RefusesOne {V : Type 0} (Says : List ℕ → V → Type 0) (Refuses : List ℕ → List ℕ → Type 0) : Type 0 where
  pub one : (bytes t t' : List ℕ) → Refuses bytes t → Refuses bytes t' → t ≡ t'
  pub none : (bytes t : List ℕ) (v : V) → Refuses bytes t → Says bytes v → ⊥

-- every file of the procedure says one value or has one refusal, and at the end there is one answer, which is Done
abbrev pub IsSettled : Bool → Procedure → Type 0
IsSettled fixed NoCommand = Unit {0}
IsSettled fixed (Answer May) = AllowsOne fixed May × OnlyDone May
IsSettled fixed (Unless refusal next) = IsSettled fixed next
IsSettled fixed (Read {V} file Says Refuses name next) = SaysOne Says × RefusesOne Says Refuses × ((v : V) → IsSettled fixed (next v))

-- a text says at most one chip, limits for a chip, or accepted plan for both, and is refused in no more than one line
pub record FilesSayOneThing : Type 0 where
  pub chips : SaysOne SaysChip
  pub refused_chips : RefusesOne SaysChip RefusesChip
  pub limits : (chip : SocValue) → SaysOne (SaysLimits chip)
  pub refused_limits : (chip : SocValue) → RefusesOne (SaysLimits chip) (RefusesLimits chip)
  pub plans : (chip : SocValue) (bounds : LimitsValue) → SaysOne (SaysAccepted chip bounds)
  pub refused_plans : (chip : SocValue) (bounds : LimitsValue) → RefusesOne (SaysAccepted chip bounds) (RefusesPlan chip bounds)
