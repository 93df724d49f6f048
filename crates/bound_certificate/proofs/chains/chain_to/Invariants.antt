use Rattle.std.proofs.Common.{◌<◌, length, slice_index}
use Rattle.soc_model.specs.Chips.{SocValue}
use Rattle.plan_model.specs.Plans.{LimitsValue}
use Rattle.bound_certificate.specs.Nodes.{node_values, AreNodes}
use Rattle.bound_certificate.specs.Sums.{AreSums}
use Rattle.bound_certificate.specs.Chains.{LeadsBack}
use Rattle.bound_certificate.proofs.chains.chain_to.Given as goal

abbrev pub invariant-loop-earlier : goal.invariant-loop-earlier
invariant-loop-earlier l = record {
  within : l.test < length l.nodes;
  leads : (soc : SocValue) (limits : LimitsValue) → AreNodes soc limits (node_values l.nodes) → AreSums soc limits (node_values l.nodes) l.sums → LeadsBack soc limits (node_values l.nodes) l.last l.chain.items l.test;
}

abbrev pub decreases-loop-earlier : goal.decreases-loop-earlier
decreases-loop-earlier l = slice_index l.sums l.test
