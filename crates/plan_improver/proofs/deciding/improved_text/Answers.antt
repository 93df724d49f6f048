use Rattle.std.proofs.Common.{◌≡◌, subst}
use Rattle.std.proofs.lemmas.Result.{IfOk-weaker}
use Rattle.plan_model.specs.Views.{plan_value}
use Rattle.plan_text.specs.PlanLines.{plan_text}
use Rattle.commands.specs.AcceptedPlans.{AcceptedValue}
use Rattle.plan_improver.specs.Improved.{IsImproved}
use Rattle.plan_improver.proofs.Kept.{Improved}
use Rattle.plan_improver.proofs.deciding.improved_text.Goals as goal

pub improved-requires : goal.improved-requires
improved-requires g c = record { given = rw (c.new-problem.ensures.chip, c.new-problem.ensures.limits) c.all.invariant.accepted }

pub returns-clause-text : goal.returns-clause-text
returns-clause-text g c =
    let inside = rw (c.new-problem.ensures.chip, c.new-problem.ensures.limits) at c.in_ok-better.ensures.improved in
    let improved = subst (λ (a : AcceptedValue). IsImproved a.soc a.limits c.args.tries a.plan (plan_value c.in_ok-better.better)) c.all.view_is inside in
    IfOk-weaker c.print_plan.result (λ text. text.items ≡ plan_text (plan_value c.in_ok-better.better)) (λ text. Improved c.args.tries c.args.all.soc c.args.all.limits c.args.all.plan text.items)
    (λ text is. (plan_value c.in_ok-better.better, improved, is)) c.print_plan.ensures.text
