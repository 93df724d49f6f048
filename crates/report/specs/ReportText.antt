-- The text of a report: why a plan is as long as it is.
use Rattle.std.specs.Prelude.{ℕ, List, ◌++◌}
use Rattle.soc_model.specs.Chips.{SocValue}
use Rattle.plan_model.specs.Plans.{LimitsValue, PlanValue, planned, power_at, widths}
use Rattle.live_tests.specs.declared.placed.PlacedTest.{PlacedTest}
use Rattle.live_tests.specs.Placed.{placed_tests}
use Rattle.report.specs.declared.peak.Peak.{Peak}
use Rattle.report.specs.Totals.{cycles_line, wires_line}
use Rattle.report.specs.Peaks.{peak, peak_text}
use Rattle.report.specs.BusLines.{bus_lines}
use Rattle.report.specs.ModuleLines.{module_lines}
use Rattle.report.specs.Chains.{chain_text}

-- the lines of the plan as a whole and of its buses, which have these widths
unfoldable pub plan_lines : LimitsValue → PlanValue → (ws : List ℕ) → List PlacedTest → Peak → List ℕ
plan_lines limits plan ws tests p =
    cycles_line plan ++ (wires_line limits.wires plan.cycles ws tests ++ (peak_text p limits.power ++ bus_lines plan.cycles tests 0 ws))

-- of these tests, which draw together what `load` says
unfoldable pub report_of : SocValue → LimitsValue → PlanValue → List PlacedTest → (load : ℕ → ℕ) → List ℕ
report_of soc limits plan tests load =
    plan_lines limits plan (widths plan) tests (peak load plan.cycles)
    ++ (module_lines limits.wires plan tests 0 soc.modules ++ chain_text soc limits load tests plan.cycles)

-- the live tests of the chip as the plan places them, and what they draw together at each cycle
abbrev pub report_text : SocValue → LimitsValue → PlanValue → List ℕ
report_text soc limits plan = report_of soc limits plan (placed_tests soc plan) (power_at limits (planned soc plan))
