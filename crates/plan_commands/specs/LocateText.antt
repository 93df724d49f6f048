-- The lines of `locate`: for each fail of a log the response bit that is read there.
use Rattle.std.specs.Prelude.{ℕ, ◌++◌, List, Option, None, Some, codes, decimal}
use Rattle.std.specs.List.{flat_map}
use Rattle.soc_model.specs.Chips.{SocValue}
use Rattle.plan_model.specs.Plans.{PlanValue}
use Rattle.fail_locate.specs.declared.Cell.{Cell}
use Rattle.fail_locate.specs.declared.Cell.TheVariants.{Flop, Out}
use Rattle.fail_locate.specs.declared.Spot.{Spot}
use Rattle.fail_locate.specs.SpotAt.{spot_at}
use Rattle.commands.specs.Texts.{test_text, two_numbers}

-- `flop CHAIN.PLACE` or `out NUMBER`
abbrev pub cell_text : Cell → List ℕ
cell_text (Flop chain place) = codes "flop " ++ decimal chain ++ codes "." ++ decimal place
cell_text (Out number) = codes "out " ++ decimal number

-- `m.t pattern k CELL`, or `none`
abbrev pub spot_text : Option Spot → List ℕ
spot_text None = codes "none"
spot_text (Some spot) = test_text spot.test ++ codes " pattern " ++ decimal spot.pattern ++ codes " " ++ cell_text spot.cell

-- the cycle, the wire, and what is read there
abbrev pub fail_line : SocValue → PlanValue → ℕ × ℕ → List ℕ
fail_line soc plan fail = two_numbers fail.0 fail.1 ++ codes " " ++ spot_text (spot_at soc plan fail.0 fail.1) ++ codes "\n"

-- a line for each fail, in the order of the log
abbrev pub locate_text : SocValue → PlanValue → List (ℕ × ℕ) → List ℕ
locate_text soc plan fails = flat_map (fail_line soc plan) fails
