use Rattle.std.proofs.Common.{List, map, ap, sym, subst, ◌∙◌}
use Rattle.soc_model.specs.Chips.{soc_value}
use Rattle.plan_model.specs.Plans.{PlanValue, WrapperValue}
use Rattle.plan_model.specs.Rules.{Each, HasProperCells, Proper}
use Rattle.plan_model.specs.Views.{wrapper_value}
use Rattle.live_tests.proofs.wrapped.ModeWrappers.new.Goals as goal

pub found-requires-clause-proper : goal.found-requires-clause-proper
found-requires-clause-proper c =
    let are = ap (map wrapper_value) c.deref.ensures.value ∙ ap (λ (p : PlanValue). p.wrappers) c.plan.ensures in
    subst (λ (ws : List WrapperValue). Each (HasProperCells (soc_value c.args.soc.now)) ws) (sym are) (c.requires.good Proper)

pub returns : goal.returns
returns c = c.found.ensures c.args.index.now (sym (ap (map wrapper_value) c.deref.ensures.value ∙ ap (λ (p : PlanValue). p.wrappers) c.plan.ensures))
