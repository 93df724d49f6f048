-- The text of a report, put together.
use Rattle.std.proofs.Common.{◌≡◌, ℕ, List, [], ◌++◌, ap, ◌∙◌, append_assoc, arith}
use Rattle.std.proofs.Math.Path.{fun_ext}
use Rattle.soc_model.specs.Chips.{SocValue}
use Rattle.plan_model.specs.Plans.{LimitsValue, PlanValue, step_power, widths}
use Rattle.plan_model.specs.Rules.{IsGood}
use Rattle.live_tests.specs.declared.placed.PlacedTest.{PlacedTest}
use Rattle.live_tests.specs.Placed.{placed_tests}
use Rattle.live_tests.specs.Loads.{drawn_by, load_steps}
use Rattle.report.specs.Chains.{chain_text}
use Rattle.report.specs.ModuleLines.{module_lines}
use Rattle.report.specs.Peaks.{no_power, peak, peak_after}
use Rattle.report.specs.ReportText.{plan_lines, report_of, report_text}
use Rattle.report.proofs.GoodPlans.{drawn_ends, drawn_is}
use Rattle.report.proofs.Steps.{load_is, peak_is}

-- of the steps of a load that ends
joined : (soc : SocValue) (limits : LimitsValue) (plan : PlanValue) (tests : List PlacedTest) (load : ℕ → ℕ) (ws : List ℕ) (steps : List (ℕ × ℕ)) (t0 t1 t2 t3 : List ℕ) → ws ≡ widths plan → peak_after no_power steps ≡ peak load plan.cycles → (λ c. step_power c 0 steps) ≡ load →
    t0 ≡ [] → t1 ≡ t0 ++ plan_lines limits plan ws tests (peak_after no_power steps) → t2 ≡ t1 ++ module_lines limits.wires plan tests 0 soc.modules → t3 ≡ t2 ++ chain_text soc limits (λ c. step_power c 0 steps) tests plan.cycles → t3 ≡ report_of soc limits plan tests load
unfolding report_of
joined soc limits plan tests load ws steps t0 t1 t2 t3 ws_are peaks loads none first second third =
    let head : t1 ≡ plan_lines limits plan (widths plan) tests (peak load plan.cycles) =
    first ∙ ap (λ (l : List ℕ). l ++ plan_lines limits plan ws tests (peak_after no_power steps)) none
    ∙ ap (λ (l : List ℕ). plan_lines limits plan l tests (peak_after no_power steps)) ws_are ∙ ap (plan_lines limits plan (widths plan) tests) peaks in
    let chain : chain_text soc limits (λ c. step_power c 0 steps) tests plan.cycles ≡ chain_text soc limits load tests plan.cycles = ap (λ (f : ℕ → ℕ). chain_text soc limits f tests plan.cycles) loads in
    third ∙ ap (λ (l : List ℕ). t2 ++ l) chain ∙ ap (λ (l : List ℕ). l ++ chain_text soc limits load tests plan.cycles) second
    ∙ append_assoc t1 (module_lines limits.wires plan tests 0 soc.modules) (chain_text soc limits load tests plan.cycles)
    ∙ ap (λ (l : List ℕ). l ++ (module_lines limits.wires plan tests 0 soc.modules ++ chain_text soc limits load tests plan.cycles)) head

pub report_is : (soc : SocValue) (limits : LimitsValue) (plan : PlanValue) (tests : List PlacedTest) (ws : List ℕ) (steps : List (ℕ × ℕ)) (t0 t1 t2 t3 : List ℕ) → IsGood soc limits plan → tests ≡ placed_tests soc plan → ws ≡ widths plan → steps ≡ load_steps (drawn_by limits (placed_tests soc plan)) plan.cycles →
    t0 ≡ [] → t1 ≡ t0 ++ plan_lines limits plan ws tests (peak_after no_power steps) → t2 ≡ t1 ++ module_lines limits.wires plan tests 0 soc.modules → t3 ≡ t2 ++ chain_text soc limits (λ c. step_power c 0 steps) tests plan.cycles → t3 ≡ report_text soc limits plan
report_is soc limits plan tests ws steps t0 t1 t2 t3 good tests_are ws_are steps_are none first second third =
    let load : ℕ → ℕ = drawn_by limits (placed_tests soc plan) in
    let peaks : peak_after no_power steps ≡ peak (drawn_by limits (placed_tests soc plan)) plan.cycles = ap (peak_after no_power) steps_are ∙ peak_is load plan.cycles (drawn_ends soc limits plan good plan.cycles (omega arith)) in
    let loads : (λ c. step_power c 0 steps) ≡ drawn_by limits (placed_tests soc plan) = fun_ext (λ c. ap (step_power c 0) steps_are ∙ load_is load plan.cycles c (drawn_ends soc limits plan good)) in
    joined soc limits plan tests load ws steps t0 t1 t2 t3 ws_are peaks loads none first second third
    ∙ ap (λ (l : List PlacedTest). report_of soc limits plan l load) tests_are ∙ ap (report_of soc limits plan (placed_tests soc plan)) (drawn_is soc limits plan)
