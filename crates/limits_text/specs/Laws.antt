-- What a text is for a chip is settled.
use Rattle.std.specs.Prelude.{◌≡◌, ◌⊎◌, ℕ, ◌≤◌, List, length, Some, None, Result}
use Rattle.soc_model.specs.declared.TestId.{TestId}
use Rattle.soc_model.specs.declared.TheConstants.{NUMBER_WORD_MOST}
use Rattle.soc_model.specs.Chips.{SocValue}
use Rattle.soc_model.specs.SoundChips.{IsSoundChip}
use Rattle.plan_model.specs.declared.Limits.{Limits}
use Rattle.plan_model.specs.Plans.{LimitsValue}
use Rattle.plan_model.specs.SoundLimits.{IsAcyclic, IsSoundLimits}
use Rattle.limits_text.specs.declared.LimFault.{LimFault}
use Rattle.limits_text.specs.Loops.{IsLoopOf, GoesRound}
use Rattle.limits_text.specs.Texts.{limits_text}
use Rattle.limits_text.specs.Answers.{LimitsRead, Reading, read_as, IsReading, reading_of}

-- for a chip a text is at most one: these limits, or this refusal with what it shows
abbrev pub TextsHaveOneAnswer : Type 0
TextsHaveOneAnswer = (bytes : List ℕ) (soc : SocValue) (a b : Reading) → IsReading bytes soc a → IsReading bytes soc b → a ≡ b

-- a text of less than 10 ^ 12 bytes is one of these for a chip
abbrev pub EachTextHasAnAnswer : Type 0
EachTextHasAnAnswer =
    (bytes : List ℕ) (soc : SocValue) → length bytes ≤ NUMBER_WORD_MOST → (reading : Reading) × IsReading bytes soc reading

-- what a text is for a chip is what is answered of it, unless memory runs out
abbrev pub TextsAreAnswered : Type 0
TextsAreAnswered =
    (bytes : List ℕ) (soc : SocValue) (answer : Result Limits LimFault) (reading : Reading) → LimitsRead bytes soc answer →
    IsReading bytes soc reading
    → (reading_of answer ≡ Some reading) ⊎ (reading_of answer ≡ None)

-- the printed text of limits that are sound for a sound chip is read as these limits
abbrev pub PrintedLimitsAreRead : Type 0
PrintedLimitsAreRead = (soc : SocValue) (limits : LimitsValue) → IsSoundChip soc → IsSoundLimits soc limits →
    IsReading (limits_text limits) soc (read_as limits)

-- so it is answered with them, unless memory runs out
abbrev pub PrintedLimitsAreAnswered : Type 0
PrintedLimitsAreAnswered =
    (soc : SocValue) (limits : LimitsValue) (answer : Result Limits LimFault) → IsSoundChip soc → IsSoundLimits soc limits →
    LimitsRead (limits_text limits) soc answer
    → (reading_of answer ≡ Some (read_as limits)) ⊎ (reading_of answer ≡ None)

-- the tests of a shown loop go round
abbrev pub LoopsGoRound : Type 0
LoopsGoRound = (soc : SocValue) (limits : LimitsValue) (tests : List TestId) → IsLoopOf soc limits tests → GoesRound soc limits tests

-- precedences of live tests that have a loop have no rank
abbrev pub LoopsHaveNoRank : Type 0
LoopsHaveNoRank = (soc : SocValue) (limits : LimitsValue) (tests : List TestId) → IsLoopOf soc limits tests → IsAcyclic soc limits → ⊥

-- precedences of live tests have a rank, or a loop that is shown
abbrev pub RanksOrLoops : Type 0
RanksOrLoops = (soc : SocValue) (limits : LimitsValue) → IsAcyclic soc limits ⊎ ((tests : List TestId) × IsLoopOf soc limits tests)
