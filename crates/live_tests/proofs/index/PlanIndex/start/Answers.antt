use Rattle.std.proofs.Common.{ℕ, ◌∙◌, ap}
use Rattle.std.specs.Prelude.{unwrap_or}
use Rattle.soc_model.specs.declared.TestId.{TestId}
use Rattle.soc_model.specs.Chips.{same_test}
use Rattle.plan_model.specs.Plans.{PlanValue, of_first}
use Rattle.plan_model.specs.Views.{plan_value}
use Rattle.live_tests.proofs.Indexed.{start_found}
use Rattle.live_tests.proofs.index.PlanIndex.start.Goals as goal

pub returns : goal.returns
returns c =
    c.unwrap_or.ensures ∙ ap (λ v. unwrap_or v 0) (c.copied.ensures ∙ c.get.ensures.value ∙ c.self.invariant.start c.args.id) ∙ start_found c.args.id (plan_value c.self.inside.plan.now).starts
    ∙ ap (λ (plan : PlanValue). of_first (λ (s : TestId × ℕ). same_test s.0 c.args.id) (λ (s : TestId × ℕ). s.1) 0 plan.starts) c.self.view_is
