use Rattle.std.proofs.Common.{take}
use Rattle.soc_model.specs.Chips.{SocValue}
use Rattle.plan_model.specs.Plans.{LimitsValue}
use Rattle.bound_certificate.specs.Nodes.{node_values, AreNodes}
use Rattle.bound_certificate.specs.Sums.{AreRight, GoOn, IsMost, unknown_count}
use Rattle.bound_certificate.proofs.sums.+greatest_sum.Given as goal

abbrev pub decreases-greatest_sum : goal.decreases-greatest_sum
decreases-greatest_sum l = unknown_count l.sums.now.items

abbrev pub invariant-loop-earlier : goal.invariant-loop-earlier
invariant-loop-earlier l = record {
  goes_on : GoOn (node_values l.nodes) l.initial.sums.items l.sums.items;
  most : (soc : SocValue) (limits : LimitsValue) → AreNodes soc limits (node_values l.nodes) → AreRight soc limits (node_values l.nodes) l.initial.sums.items → IsMost soc limits (node_values l.nodes) (take l.earlier-index l.earlier-items) l.most;
}
