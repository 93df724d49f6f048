use Rattle.std.proofs.Common.{◌∙◌, ap, map}
use Rattle.soc_model.specs.Chips.{soc_value, live_tests}
use Rattle.plan_model.specs.Views.{limits_value, profile_value}
use Rattle.limits_text.specs.Passing.{first_passing}
use Rattle.limits_text.proofs.FirstPassing.{passes_under, passes_free}
use Rattle.limits_text.proofs.refusals.test_power.Goals as goal

pub returns-in_err-most : goal.returns-in_err-most
returns-in_err-most c = rw c.from_residual.ensures (passes_free (soc_value c.args.soc.now) (limits_value c.args.limits.now) c.in_err-most.was)

pub returns : goal.returns
returns c =
    passes_under (soc_value c.args.soc.now) (limits_value c.args.limits.now) c.in_ok-most.most c.first_test.result c.in_ok-most.was
    (c.first_test.ensures ∙ ap (λ ps. first_passing (map profile_value ps) c.in_ok-most.most (live_tests (soc_value c.args.soc.now))) c.deref.ensures.value)
