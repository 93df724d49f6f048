use Rattle.std.proofs.Common.{◌∙◌}
use Rattle.soc_model.specs.Chips.{soc_value}
use Rattle.plan_model.specs.Views.{limits_value}
use Rattle.plan_model.specs.Certificates.{certificate_value}
use Rattle.plan_model.specs.Plans.{OfPair}
use Rattle.bound_certificate.proofs.Checks.{enough_is, family_some}
use Rattle.bound_certificate.proofs.check_pair.Goals as goal

pub returns-in-Some-pair_bound : goal.returns-in-Some-pair_bound
unfolding certificate_value
returns-in-Some-pair_bound c =
    let soc = soc_value c.args.soc.now in
    let family = family_some (soc_value c.args.soc.now) c.args.limits.now.wires c.in-Some.place c.in-Some-pair_bound.shown c.in-Some-pair_bound.ensures.sum in
    enough_is (soc_value c.args.soc.now) (limits_value c.args.limits.now) c.args.claimed (OfPair c.args.module) c.from.result c.enough.result c.enough.ensures
    (rw (← c.in-Some.ensures) family.0) (rw (← c.in-Some.ensures) (c.from.ensures ∙ family.1))
