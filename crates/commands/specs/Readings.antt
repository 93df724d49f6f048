-- What the bytes of a file say, and the lines that refuse them.
use Rattle.std.specs.Prelude.{◌≡◌, ℕ, ◌≤◌, ◌⊎◌, List, Option, None, Some, length}
use Rattle.soc_model.specs.Chips.{SocValue}
use Rattle.soc_model.specs.declared.SocLimit.{SocLimit}
use Rattle.soc_reader.specs.Refusals.{IsRefusedLine, IsTooLarge}
use Rattle.plan_model.specs.Plans.{LimitsValue, PlanValue}
use Rattle.plan_model.specs.Faults.{FaultValue, IsFault, IsFaultless}
use Rattle.limits_text.specs.Answers.{Reading, read_as, refused_line, unknown_line, shown_loop, passing_power, IsReading}
use Rattle.plan_text.specs.Answers.{SaysPlan, RefusesText}
use Rattle.commands.specs.declared.FileKind.{FileKind}
use Rattle.commands.specs.declared.FileKind.TheVariants.{Soc, Limits, Plan, Tree, Program, Log, Proof, Data}
use Rattle.commands.specs.declared.TheConstants.{DATA_FILE_MOST, FILE_MOST, PLAN_FILE_MOST}
use Rattle.commands.specs.Texts.{chip_line, chip_limit_line, limits_line, unknown_test_line, loop_line, test_power_line, plan_line, fault_line}

-- the greatest length of a file, in bytes
abbrev pub most_of : FileKind → ℕ
most_of Soc = FILE_MOST
most_of Limits = FILE_MOST
most_of Plan = PLAN_FILE_MOST
most_of Tree = FILE_MOST
most_of Program = FILE_MOST
most_of Log = FILE_MOST
most_of Proof = FILE_MOST
most_of Data = DATA_FILE_MOST

-- the name holds bytes within the limit of its file, and they say the value
pub record IsRead {V : Type 0} (file : FileKind) (Says : List ℕ → V → Type 0) (held : Option (List ℕ)) (value : V) : Type 0 where
  pub bytes : List ℕ
  pub held_is : held ≡ Some bytes
  pub within : length bytes ≤ most_of file
  pub says : Says bytes value

-- ---- a chip

-- the chip's text is refused at a line, or for a limit on the size of a chip
abbrev pub RefusesChip : List ℕ → List ℕ → Type 0
RefusesChip bytes text =
    ((line : ℕ) × IsRefusedLine bytes line × (text ≡ chip_line line))
    ⊎ ((limit : SocLimit) × IsTooLarge bytes limit × (text ≡ chip_limit_line limit))

-- ---- limits for a chip

abbrev pub SaysLimits : SocValue → List ℕ → LimitsValue → Type 0
SaysLimits chip bytes bounds = IsReading bytes chip (read_as bounds)

-- the line of a reading that isn't limits
abbrev pub refusal_of : Reading → Option (List ℕ)
refusal_of (read_as bounds) = None
refusal_of (refused_line line) = Some (limits_line line)
refusal_of (unknown_line line) = Some (unknown_test_line line)
refusal_of (shown_loop tests) = Some (loop_line tests)
refusal_of (passing_power test power) = Some (test_power_line test power)

abbrev pub RefusesLimits : SocValue → List ℕ → List ℕ → Type 0
RefusesLimits chip bytes text = (reading : Reading) × IsReading bytes chip reading × (refusal_of reading ≡ Some text)

-- ---- a plan for a chip under limits

-- the text says the plan, which keeps every rule and has an accepted certificate
abbrev pub SaysAccepted : SocValue → LimitsValue → List ℕ → PlanValue → Type 0
SaysAccepted chip bounds bytes value = SaysPlan bytes value × IsFaultless chip bounds value

-- the plan's text is refused at a line, or says a plan with a fault
abbrev pub RefusesPlan : SocValue → LimitsValue → List ℕ → List ℕ → Type 0
RefusesPlan chip bounds bytes text =
    ((line : ℕ) × RefusesText bytes line × (text ≡ plan_line line))
    ⊎ ((value : PlanValue) × SaysPlan bytes value × ((fault : FaultValue) × IsFault chip bounds value fault × (text ≡ fault_line fault)))
