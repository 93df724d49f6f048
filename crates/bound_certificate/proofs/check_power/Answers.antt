use Rattle.std.proofs.Common.{◌∙◌}
use Rattle.soc_model.specs.Chips.{soc_value}
use Rattle.plan_model.specs.Views.{limits_value}
use Rattle.plan_model.specs.Certificates.{certificate_value}
use Rattle.plan_model.specs.Plans.{OfPower}
use Rattle.bound_certificate.proofs.Checks.{enough_is}
use Rattle.bound_certificate.proofs.check_power.Goals as goal

pub returns-clause-check : goal.returns-clause-check
unfolding certificate_value
returns-clause-check c = enough_is (soc_value c.args.soc.now) (limits_value c.args.limits.now) c.args.claimed OfPower c.from.result c.enough.result c.enough.ensures tt (c.from.ensures ∙ c.power_value.ensures.value)
