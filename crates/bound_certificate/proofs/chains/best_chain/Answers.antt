use Rattle.bound_certificate.specs.Nodes.{node_values}
use Rattle.bound_certificate.proofs.WayBack.{none_last, chain_found}
use Rattle.bound_certificate.proofs.chains.best_chain.Goals as goal

pub returns-in_default : goal.returns-in_default
returns-in_default c = λ soc limits are right. none_last soc limits (node_values c.args.nodes.now) c.args.sums.now are right c.in_default.ensures.best

pub returns : goal.returns
returns c = λ soc limits are right. chain_found soc limits (node_values c.args.nodes.now) c.args.sums.now are right c.in-Some.last c.in_ok-chain_to.field-0.items c.in-Some.ensures.best (λ n at. c.in_ok-chain_to.ensures soc limits n are right at)
