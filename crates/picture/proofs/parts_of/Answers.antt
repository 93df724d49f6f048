use Rattle.std.proofs.Common.{sym, subst, IfOk}
use Rattle.soc_model.specs.Chips.{soc_value}
use Rattle.plan_model.specs.Views.{limits_value, plan_value}
use Rattle.live_tests.specs.PlacedPlans.{PlacedPlanValue}
use Rattle.picture.specs.Laws.{AreParts, AreTestsOf}
use Rattle.picture.proofs.parts_of.Goals as goal

pub parts_with-requires : goal.parts_with-requires
parts_with-requires c = (
  soc_value c.placed.inside.soc.now,
  subst (λ (p : PlacedPlanValue). AreTestsOf p.soc (limits_value c.args.limits.now) p.plan c.tests.result.now) (sym c.placed.view_is)
      (record { sound_limits = c.requires.sound_limits; good = c.requires.good; placed = c.tests.ensures }),
)

pub returns : goal.returns
returns c =
    let given : AreTestsOf (soc_value c.placed.inside.soc.now) (limits_value c.args.limits.now) (plan_value c.placed.inside.plan.now) c.tests.result.now =
    subst (λ (p : PlacedPlanValue). AreTestsOf p.soc (limits_value c.args.limits.now) p.plan c.tests.result.now) (sym c.placed.view_is)
    (record { sound_limits = c.requires.sound_limits; good = c.requires.good; placed = c.tests.ensures }) in
    subst (λ (p : PlacedPlanValue). IfOk c.parts_with.result (AreParts p.soc (limits_value c.args.limits.now) p.plan)) c.placed.view_is
    (c.parts_with.ensures (soc_value c.placed.inside.soc.now) given)
