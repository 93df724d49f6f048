use Rattle.std.proofs.Common.{◌≡◌, ℕ, List, subst}
use Rattle.plan_model.specs.Plans.{PlanValue}
use Rattle.live_tests.specs.Problems.{ProblemValue}
use Rattle.planner.specs.Plans.{IsPlanned}
use Rattle.split_plan.specs.Parts.{split_chip, split_limits, split_of}
use Rattle.commands.specs.Decides.{GivesAny}
use Rattle.plan_commands.specs.SplitText.{split_refusal, split_text}
use Rattle.plan_commands.proofs.splitting.answer_both.Goals as goal

pub returns : goal.returns
returns c =
    subst (λ (p : ProblemValue). GivesAny (split_refusal p.soc p.limits c.args.most) (λ (text : List ℕ). (value : PlanValue) × IsPlanned (split_chip p.limits c.args.most p.soc) (split_limits p.limits c.args.most p.soc) value × (text ≡ split_text (split_of p.soc p.limits c.args.most) value)) c.answer_split.result)
    c.both.view_is c.answer_split.ensures
