-- What `sample` plans for, and its summary.
use Rattle.std.specs.Prelude.{ℕ, ◌++◌, List, [], Some, length, codes, decimal}
use Rattle.soc_model.specs.Chips.{SocValue, live_tests}
use Rattle.plan_model.specs.Plans.{LimitsValue, PlanValue, WhyValue}
use Rattle.plan_text.specs.PlanLines.{reason_key}
use Rattle.plan_text.specs.Tokens.{spelling}
use Rattle.commands.specs.Texts.{two_numbers}

-- the limits of a made chip: 32 wires, a power of 300, and a search of 1,000 prefixes
abbrev pub sample_limits : LimitsValue
sample_limits = record { wires = 32; power = Some 300; before = []; budget = 1000; profiles = [] }

-- the keyword of a kind of certificate
abbrev pub kind_text : WhyValue → List ℕ
kind_text why = spelling (reason_key why)

-- the chip's numbers, the cycles of its plan, and the bound with its kind
abbrev pub sample_text : (n seed : ℕ) → SocValue → PlanValue → List ℕ
sample_text n seed chip plan =
    codes "sample " ++ two_numbers n seed
    ++ codes "\nmodules " ++ decimal (length chip.modules)
    ++ codes "\ntests " ++ decimal (length (live_tests chip))
    ++ codes "\ncycles " ++ decimal plan.cycles
    ++ codes "\nbound " ++ decimal plan.bound.cycles ++ codes " " ++ kind_text plan.bound.why
    ++ codes "\naccepted\n"

-- a number of modules that is refused
abbrev pub sample_line : ℕ → List ℕ
sample_line n = codes "refused sample " ++ decimal n ++ codes "\n"
