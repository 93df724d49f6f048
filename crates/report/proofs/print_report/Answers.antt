use Rattle.std.proofs.Common.{◌≡◌, ◌∙◌, ap, sym, subst, IfOk}
use Rattle.plan_model.specs.Rules.{IsGood}
use Rattle.plan_model.specs.SoundLimits.{IsSoundLimits}
use Rattle.plan_model.specs.Views.{limits_value}
use Rattle.live_tests.specs.Placed.{placed_tests}
use Rattle.live_tests.specs.PlacedPlans.{PlacedPlanValue}
use Rattle.report.specs.ReportText.{report_text}
use Rattle.report.proofs.print_report.Goals as goal

pub print_placed-requires-clause-sound : goal.print_placed-requires-clause-sound
print_placed-requires-clause-sound c = c.placed.invariant.sound

pub print_placed-requires-clause-sound_limits : goal.print_placed-requires-clause-sound_limits
print_placed-requires-clause-sound_limits c =
    subst (λ (p : PlacedPlanValue). IsSoundLimits p.soc (limits_value c.args.limits.now)) (sym c.placed.view_is) c.requires.sound_limits

pub print_placed-requires-clause-good : goal.print_placed-requires-clause-good
print_placed-requires-clause-good c =
    subst (λ (p : PlacedPlanValue). IsGood p.soc (limits_value c.args.limits.now) p.plan) (sym c.placed.view_is) c.requires.good

pub print_placed-requires-clause-tests : goal.print_placed-requires-clause-tests
print_placed-requires-clause-tests c = c.tests.ensures ∙ ap (λ (p : PlacedPlanValue). placed_tests p.soc p.plan) (sym c.placed.view_is)

pub returns : goal.returns
returns c = record {
  text = subst (λ (p : PlacedPlanValue). IfOk c.print_placed.result (λ text. text.items ≡ report_text p.soc (limits_value c.args.limits.now) p.plan))
      c.placed.view_is c.print_placed.ensures;
}
