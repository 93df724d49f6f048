use Rattle.std.proofs.Common.{◌≡◌, ◌++◌, [], refl, sym, subst, nat_eq, if◌then◌else◌}
use Rattle.soc_model.specs.Chips.{soc_value}
use Rattle.plan_model.specs.Views.{limits_value, plan_value}
use Rattle.live_tests.specs.PlacedPlans.{PlacedPlanValue}
use Rattle.picture.specs.Laws.{AreParts}
use Rattle.picture.specs.PictureText.{inner_text, picture_with}
use Rattle.picture.proofs.PartsOfPlans.{no_cycles, picture_is, some_cycles}
use Rattle.picture.proofs.print_with.Goals.{then-cycles-ne0+in_ok-push_inner, else-cycles-ne0}
use Rattle.picture.proofs.print_with.Goals as goal

pub returns : goal.returns
returns c =
    let soc = soc_value c.placed.inside.soc.now in
    let limits = limits_value c.args.limits.now in
    let plan = plan_value c.placed.inside.plan.now in
    let t2 = c.push_frame.new.text.items in
    let parts : AreParts (soc_value c.placed.inside.soc.now) (limits_value c.args.limits.now) (plan_value c.placed.inside.plan.now) c.in_ok-parts.parts =
    subst (λ (p : PlacedPlanValue). AreParts p.soc (limits_value c.args.limits.now) p.plan c.in_ok-parts.parts) (sym c.placed.view_is) c.in_ok-parts.ensures in
    let inner : c.if-cycles-ne0.text.items ≡ c.push_frame.new.text.items ++ (if nat_eq (plan_value c.placed.inside.plan.now).cycles 0 then [] else inner_text (soc_value c.placed.inside.soc.now) (limits_value c.args.limits.now) (plan_value c.placed.inside.plan.now) c.args.mark) = elim c.if-cycles-ne0.branch [
      | then-cycles-ne0+in_ok-push_inner w ↦ rw w.text-is (some_cycles plan.cycles t2 w.push_inner.new.text.items (inner_text soc limits plan c.args.mark) w.if-cycles-ne0.true (w.in_ok-push_inner.ensures limits plan parts refl refl))
      | else-cycles-ne0 w ↦ rw w.text-is (no_cycles plan.cycles t2 (inner_text soc limits plan c.args.mark) w.if-cycles-ne0.false)
    ] in
    let text : c.extend.new.to.items ≡ picture_with (soc_value c.placed.inside.soc.now) (limits_value c.args.limits.now) (plan_value c.placed.inside.plan.now) c.args.mark =
    picture_is soc limits plan c.args.mark c.in_ok-parts.parts c.new-text.result.items c.push_head.new.text.items t2 c.if-cycles-ne0.text.items c.extend.new.to.items parts c.new-text.ensures.items c.in_ok-push_head.ensures c.in_ok-push_frame.ensures inner c.in_ok-extend.ensures.ok in
    subst (λ (p : PlacedPlanValue). c.extend.new.to.items ≡ picture_with p.soc (limits_value c.args.limits.now) p.plan c.args.mark) c.placed.view_is text
