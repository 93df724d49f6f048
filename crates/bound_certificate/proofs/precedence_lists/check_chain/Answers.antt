use Rattle.soc_model.specs.Chips.{soc_value}
use Rattle.plan_model.specs.Views.{limits_value}
use Rattle.plan_model.specs.Certificates.{certificate_value}
use Rattle.plan_model.specs.Plans.{OfChain}
use Rattle.bound_certificate.proofs.Checks.{enough_is}
use Rattle.bound_certificate.proofs.precedence_lists.check_chain.Goals as goal

pub returns-in-None-clause-check : goal.returns-in-None-clause-check
unfolding certificate_value
returns-in-None-clause-check c = enough_is (soc_value c.args.soc.now) (limits_value c.args.limits.now) c.args.claimed (OfChain c.args.tests.now) c.chain_bound.result c.enough.result c.enough.ensures c.in-None.ensures c.chain_bound.ensures.sum
