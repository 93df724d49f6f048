use Rattle.soc_model.specs.Chips.{soc_value}
use Rattle.plan_model.specs.Views.{limits_value}
use Rattle.plan_model.specs.Certificates.{IsChainItem}
use Rattle.bound_certificate.proofs.Breached.{KeptBelow}
use Rattle.bound_certificate.proofs.precedence_lists.chain_breach.Given as goal

abbrev pub invariant-loop-place : goal.invariant-loop-place
invariant-loop-place l = KeptBelow (IsChainItem (soc_value l.soc) (limits_value l.limits)) l.tests l.place
