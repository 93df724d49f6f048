use Rattle.std.proofs.Common.{◌≡◌, ◌<◌, ℕ, Option, None, Some, sym, ◌∙◌, subst, IfSome}
use Rattle.plan_model.specs.declared.Bound.{Bound}
use Rattle.plan_model.specs.declared.Plan.{Plan}
use Rattle.soc_model.specs.SoundChips.{IsSoundChip}
use Rattle.plan_model.specs.SoundLimits.{IsSoundLimits}
use Rattle.plan_model.specs.Rules.{IsGood}
use Rattle.plan_model.specs.Views.{bound_value, plan_value}
use Rattle.plan_text.specs.Grammar.{AreSmallStarts}
use Rattle.plan_improver.specs.Improved.{IsRaised}
use Rattle.plan_improver.proofs.OtherBounds.{good_bounded}
use Rattle.plan_improver.proofs.Raised.{better, kept}
use Rattle.plan_improver.proofs.improving.improved.Goals as goal

-- what is known of a plan that is there
of_some : (found : Option Plan) (plan : Plan) (P : Plan → Type 0) → found ≡ Some plan → IfSome found P → P plan
of_some found plan P is all = rw is at all

-- where nothing was tried, none is there
some_tried : (found : Option Plan) (plan : Plan) (tries : ℕ) → found ≡ Some plan → (tries ≡ 0 → found ≡ None) → tries ≡ 0 → ⊥
some_tried found plan tries is untried none = let wrong : Some plan ≡ None = sym is ∙ untried none in cc

pub with_greater_bound-requires-clause-good : goal.with_greater_bound-requires-clause-good
with_greater_bound-requires-clause-good g c =
    of_some c.in_ok-found.found c.in-Some.plan (λ p. IsGood c.args.problem.now.soc c.args.problem.now.limits (plan_value p)) c.in-Some.is c.in_ok-found.ensures.good

pub with_greater_bound-requires-in-None-clause-good : goal.with_greater_bound-requires-in-None-clause-good
with_greater_bound-requires-in-None-clause-good g c = good_bounded c.args.problem.now.soc c.args.problem.now.limits (plan_value c.args.given) (bound_value c.replace-bound.new.dest) c.requires.given.0

pub returns-in_ok-better-in-Some-clause-improved : goal.returns-in_ok-better-in-Some-clause-improved
returns-in_ok-better-in-Some-clause-improved g c =
    let sound : IsSoundChip c.args.problem.now.soc = rw (← c.problem.view_is) c.problem.invariant.sound in
    let bounds : IsSoundLimits c.args.problem.now.soc c.args.problem.now.limits = rw (← c.problem.view_is) c.problem.invariant.bounds in
    better c.args.problem.now.soc c.args.problem.now.limits (c.faultless_plans_are_in_range.ensures c.args.problem.now.soc c.args.problem.now.limits sound bounds) c.args.tries (plan_value c.args.given) (plan_value c.in-Some.plan) (plan_value c.in_ok-better-in-Some.better)
    (subst (λ (b : Bound). IsRaised c.args.problem.now.soc c.args.problem.now.limits (plan_value c.in-Some.plan) (bound_value b) (plan_value c.in_ok-better-in-Some.better)) c.replace-bound.ensures.value c.in_ok-better-in-Some.ensures)
    (of_some c.in_ok-found.found c.in-Some.plan (λ p. p.cycles < c.args.given.cycles) c.in-Some.is c.in_ok-found.ensures.fewer)
    (of_some c.in_ok-found.found c.in-Some.plan (λ p. AreSmallStarts (plan_value p).starts) c.in-Some.is c.in_ok-found.ensures.small_starts)
    (some_tried c.in_ok-found.found c.in-Some.plan c.args.tries c.in-Some.is c.in_ok-found.ensures.untried)

pub returns-in_ok-kept-in-None-clause-improved : goal.returns-in_ok-kept-in-None-clause-improved
returns-in_ok-kept-in-None-clause-improved g c =
    let sound : IsSoundChip c.args.problem.now.soc = rw (← c.problem.view_is) c.problem.invariant.sound in
    let bounds : IsSoundLimits c.args.problem.now.soc c.args.problem.now.limits = rw (← c.problem.view_is) c.problem.invariant.bounds in
    kept c.args.problem.now.soc c.args.problem.now.limits (c.faultless_plans_are_in_range.ensures c.args.problem.now.soc c.args.problem.now.limits sound bounds) c.args.tries (plan_value c.args.given) (plan_value c.in_ok-kept-in-None.kept) (bound_value c.replace-bound.new.dest)
    (subst (λ (b : Bound). IsRaised c.args.problem.now.soc c.args.problem.now.limits (record (plan_value c.args.given) { bound = bound_value c.replace-bound.new.dest }) (bound_value b) (plan_value c.in_ok-kept-in-None.kept)) c.replace-bound.ensures.value c.in_ok-kept-in-None.ensures)

pub returns-in_ok-better-in-Some-clause-right : goal.returns-in_ok-better-in-Some-clause-right
returns-in_ok-better-in-Some-clause-right g c = λ content. c.good_plans_run_right.ensures c.args.problem.now.soc c.args.problem.now.limits (plan_value c.in_ok-better-in-Some.better) content c.in_ok-better-in-Some.ensures.good

pub returns-in_ok-kept-in-None-clause-right : goal.returns-in_ok-kept-in-None-clause-right
returns-in_ok-kept-in-None-clause-right g c = λ content. c.good_plans_run_right.ensures c.args.problem.now.soc c.args.problem.now.limits (plan_value c.in_ok-kept-in-None.kept) content c.in_ok-kept-in-None.ensures.good
