use Rattle.std.proofs.Common.{◌≡◌, ◌∙◌, ◌++◌, ◌≤◌, ◌<◌, ◌^◌, ℕ, Some, List, sum, ap, sym, subst, arith, slice_get}
use Rattle.soc_model.specs.Chips.{SocValue, soc_value}
use Rattle.plan_model.specs.Plans.{LimitsValue, PlanValue, step_power, widths}
use Rattle.plan_model.specs.Views.{limits_value, plan_value}
use Rattle.live_tests.specs.declared.placed.PlacedTest.{PlacedTest}
use Rattle.live_tests.specs.Placed.{placed_tests}
use Rattle.live_tests.specs.Events.{HasSteps}
use Rattle.live_tests.specs.Loads.{drawn_by, load_steps}
use Rattle.report.specs.Chains.{chain_text}
use Rattle.report.specs.Peaks.{no_power, peak_after}
use Rattle.report.specs.PlacedTests.{AreTests, StandIn}
use Rattle.report.specs.ReportText.{plan_lines}
use Rattle.report.specs.Totals.{busy_area}
use Rattle.report.proofs.GoodPlans.{are_tests, area_fits, drawn_fits, ends_by, few_wires, has_steps, stand_in}
use Rattle.report.proofs.Whole.{report_is}
use Rattle.report.proofs.print_placed.Goals as goal

pub power_steps-requires-clause-steps : goal.power_steps-requires-clause-steps
power_steps-requires-clause-steps c =
    subst (λ (tests : List PlacedTest). (i : ℕ) (t : PlacedTest) → slice_get tests i ≡ Some t → HasSteps (limits_value c.args.limits.now) t) (sym c.requires.tests)
    (has_steps (soc_value c.args.soc.now) (limits_value c.args.limits.now) (plan_value c.args.plan.now) c.requires.sound_limits c.requires.good)

pub power_steps-requires-clause-fits : goal.power_steps-requires-clause-fits
power_steps-requires-clause-fits c =
    subst (λ (tests : List PlacedTest). (r : ℕ) → drawn_by (limits_value c.args.limits.now) tests r < 2 ^ 64) (sym c.requires.tests)
    (drawn_fits (soc_value c.args.soc.now) (limits_value c.args.limits.now) (plan_value c.args.plan.now) c.requires.sound c.requires.sound_limits)

pub push_plan-requires-clause-few : goal.push_plan-requires-clause-few
push_plan-requires-clause-few c =
    omega (arith, few_wires (soc_value c.args.soc.now) (limits_value c.args.limits.now) (plan_value c.args.plan.now) c.requires.sound_limits c.requires.good, ap sum (c.deref.ensures.value ∙ c.in_ok-ws.ensures))

pub push_plan-requires-clause-fits : goal.push_plan-requires-clause-fits
push_plan-requires-clause-fits c =
    let fits : busy_area (widths (plan_value c.args.plan.now)) (placed_tests (soc_value c.args.soc.now) (plan_value c.args.plan.now)) < 2 ^ 128 =
    area_fits (soc_value c.args.soc.now) (limits_value c.args.limits.now) (plan_value c.args.plan.now) c.requires.sound c.requires.sound_limits c.requires.good in
    subst (λ (tests : List PlacedTest). busy_area c.deref.result.now tests < 2 ^ 128) (sym c.requires.tests)
    (subst (λ (ws : List ℕ). busy_area ws (placed_tests (soc_value c.args.soc.now) (plan_value c.args.plan.now)) < 2 ^ 128) (sym (c.deref.ensures.value ∙ c.in_ok-ws.ensures)) fits)

pub push_plan-requires-clause-tests : goal.push_plan-requires-clause-tests
push_plan-requires-clause-tests c =
    subst (AreTests (plan_value c.args.plan.now).cycles) (sym c.requires.tests) (are_tests (soc_value c.args.soc.now) (limits_value c.args.limits.now) (plan_value c.args.plan.now) c.requires.sound c.requires.good)

pub push_chain-requires : goal.push_chain-requires
push_chain-requires c =
    subst (StandIn (soc_value c.args.soc.now).modules) (sym c.requires.tests) (stand_in (soc_value c.args.soc.now) (plan_value c.args.plan.now))

pub returns : goal.returns
returns c =
    let soc : SocValue = soc_value c.args.soc.now in
    let limits : LimitsValue = limits_value c.args.limits.now in
    let plan : PlanValue = plan_value c.args.plan.now in
    let tests : List PlacedTest = c.args.tests.now in
    let steps : List (ℕ × ℕ) = c.in_ok-steps.steps.items in
    let ends : (i : ℕ) (t : PlacedTest) → slice_get c.args.tests.now i ≡ Some t → t.end ≤ (plan_value c.args.plan.now).cycles =
    subst (λ (l : List PlacedTest). (i : ℕ) (t : PlacedTest) → slice_get l i ≡ Some t → t.end ≤ (plan_value c.args.plan.now).cycles) (sym c.requires.tests) (λ i t at. (ends_by soc limits plan c.requires.good i t at).1) in
    let steps_are : c.in_ok-steps.steps.items ≡ load_steps (drawn_by (limits_value c.args.limits.now) (placed_tests (soc_value c.args.soc.now) (plan_value c.args.plan.now))) (plan_value c.args.plan.now).cycles =
    c.in_ok-steps.ensures plan.cycles ends ∙ ap (λ (l : List PlacedTest). load_steps (drawn_by limits l) plan.cycles) c.requires.tests in
    report_is soc limits plan tests c.deref.result.now steps c.new-text.result.items c.push_plan.new.text.items c.push_timed.new.text.items c.push_chain.new.text.items c.requires.good c.requires.tests (c.deref.ensures.value ∙ c.in_ok-ws.ensures) steps_are c.new-text.ensures.items
    (subst (λ (l : List (ℕ × ℕ)). c.push_plan.new.text.items ≡ c.new-text.result.items ++ plan_lines (limits_value c.args.limits.now) (plan_value c.args.plan.now) c.deref.result.now c.args.tests.now (peak_after no_power l)) c.deref-2.ensures.value c.in_ok-push_plan.ensures)
    c.in_ok-push_timed.ensures
    (subst (λ (l : List (ℕ × ℕ)). c.push_chain.new.text.items ≡ c.push_timed.new.text.items ++ chain_text (soc_value c.args.soc.now) (limits_value c.args.limits.now) (λ r. step_power r 0 l) c.args.tests.now (plan_value c.args.plan.now).cycles) c.deref-4.ensures.value c.in_ok-push_chain.ensures)
