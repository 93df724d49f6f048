use Rattle.std.proofs.Common.{List, map, position, ap, ◌∙◌}
use Rattle.plan_model.specs.declared.Wrapper.{Wrapper}
use Rattle.plan_model.specs.Plans.{wraps}
use Rattle.plan_model.specs.Views.{wrapper_value}
use Rattle.live_tests.proofs.index.PlanIndex.with_wrappers.Goals as goal

pub invariant_of-result : goal.invariant_of-result
invariant_of-result c =
    record {
      bus = c.requires.buses;
      wrapper = λ m scan. c.in_ok-wrappers.ensures m scan ∙ ap (λ (ws : List Wrapper). position (wraps m scan) (map wrapper_value ws)) c.deref.ensures.value;
      start = c.requires.starts;
    }
