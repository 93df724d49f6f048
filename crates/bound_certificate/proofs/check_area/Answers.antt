use Rattle.std.proofs.Common.{◌∙◌}
use Rattle.soc_model.specs.Chips.{soc_value}
use Rattle.plan_model.specs.Views.{limits_value}
use Rattle.plan_model.specs.Certificates.{certificate_value}
use Rattle.plan_model.specs.Plans.{OfArea}
use Rattle.bound_certificate.proofs.Checks.{enough_is}
use Rattle.bound_certificate.proofs.check_area.Goals as goal

pub returns : goal.returns
unfolding certificate_value
returns c = enough_is (soc_value c.args.soc.now) (limits_value c.args.limits.now) c.args.claimed OfArea c.from.result c.enough.result c.enough.ensures tt (c.from.ensures ∙ c.area_bound.ensures.quotient)
