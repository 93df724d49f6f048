use Rattle.std.proofs.Common.{◌∙◌, refl}
use Rattle.soc_model.specs.Chips.{soc_value}
use Rattle.plan_model.specs.Views.{limits_value}
use Rattle.plan_model.specs.Certificates.{certificate_value}
use Rattle.plan_model.specs.Plans.{OfModule}
use Rattle.bound_certificate.proofs.Checks.{enough_is}
use Rattle.bound_certificate.proofs.check_module.Goals as goal

pub returns-in-Some : goal.returns-in-Some
unfolding certificate_value
returns-in-Some c = enough_is (soc_value c.args.soc.now) (limits_value c.args.limits.now) c.args.claimed (OfModule c.args.module) c.from.result c.enough.result c.enough.ensures
    (rw (← c.in-Some.ensures) refl) (rw (← c.in-Some.ensures) (c.from.ensures ∙ c.module_bound.ensures.sum))
