use Rattle.std.proofs.Common.{◌∙◌, false, map, sym}
use Rattle.soc_model.specs.declared.Test.{Test}
use Rattle.soc_model.specs.Chips.{module_value}
use Rattle.plan_model.specs.Views.{profile_value}
use Rattle.limits_text.proofs.FirstPassing.{test_passes_not}
use Rattle.limits_text.proofs.refusals.passing_in.Goals as goal

none : Test
none = record { number = 0; scan = false; tam = false; patterns = 0; power = 0 }

pub loop-test-preserved : goal.loop-test-preserved
unfolding none
loop-test-preserved c = λ place.
    test_passes_not (map profile_value c.args.profiles.now) c.args.most place (module_value c.args.«module».now) c.deref-test-items.result.now c.args.«module».now.tests.items c.loop-test.test-index none _ c.deref-test-items.ensures.value c.loop-test-test.true
    (sym c.live.ensures ∙ c.if-not-live.false) (sym (c.passing_test.ensures place) ∙ c.in_default.is) (c.loop-test.invariant place)
