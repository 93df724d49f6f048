-- The text of a chip of parts with a plan, and the line of a chip of parts that is too large.
use Rattle.std.specs.Prelude.{ℕ, ◌++◌, List, Option, option_map, codes, decimal}
use Rattle.std.specs.Option.{option_or}
use Rattle.std.specs.List.{flat_map}
use Rattle.soc_model.specs.declared.SocLimit.{SocLimit}
use Rattle.soc_model.specs.declared.Which.{Which}
use Rattle.soc_model.specs.declared.Which.TheVariants.{Modules, Tests, Chains, Power, Work}
use Rattle.soc_model.specs.Chips.{SocValue}
use Rattle.soc_model.specs.Sizes.{passed}
use Rattle.soc_printer.specs.SocText.{soc_text}
use Rattle.plan_model.specs.Plans.{LimitsValue, PlanValue}
use Rattle.limits_text.specs.Texts.{limits_text}
use Rattle.plan_text.specs.PlanLines.{plan_text}
use Rattle.split_plan.specs.declared.Part.{Part}
use Rattle.split_plan.specs.Parts.{SplitValue, split_chip}
use Rattle.commands.specs.Texts.{limit_name, test_text, two_numbers}

-- a part: its test, its first and its last pattern, and the test of the chip of parts that it is
abbrev pub part_line : Part → List ℕ
part_line p = test_text p.whole ++ codes " " ++ two_numbers p.first p.last ++ codes " as " ++ test_text p.part ++ codes "\n"

abbrev pub parts_text : List Part → List ℕ
parts_text parts = flat_map part_line parts

-- a chip and limits for it
abbrev pub soc_and_limits : SocValue → LimitsValue → List ℕ
soc_and_limits soc limits = codes "soc\n" ++ soc_text soc ++ codes "limits\n" ++ limits_text limits

-- the parts, their chip, its limits and a plan, each under a line that names it
abbrev pub split_text : SplitValue → PlanValue → List ℕ
split_text s value = codes "parts\n" ++ parts_text s.parts ++ soc_and_limits s.soc s.limits ++ codes "plan\n" ++ plan_text value

-- ---- chips of parts that are too large

-- this limit with the number that passes it, where one does
abbrev pub passed_as : SocValue → Which → Option SocLimit
passed_as soc which = option_map (λ (n : ℕ). record { which = which; value = n }) (passed soc which)

-- the first limit that a chip passes
abbrev pub first_passed : SocValue → Option SocLimit
first_passed soc =
    option_or (passed_as soc Modules) (option_or (passed_as soc Tests)
    (option_or (passed_as soc Chains) (option_or (passed_as soc Power) (passed_as soc Work))))

abbrev pub split_line : SocLimit → List ℕ
split_line limit = codes "refused split limit " ++ limit_name limit.which ++ decimal limit.value ++ codes "\n"

-- the line that refuses a chip of parts that passes a limit on its size
abbrev pub split_refusal : SocValue → LimitsValue → (most : ℕ) → Option (List ℕ)
split_refusal chip bounds most = option_map split_line (first_passed (split_chip bounds most chip))
