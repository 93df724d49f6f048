use Rattle.std.proofs.Common.{◌≡◌, ℕ, length, Some, slice_get}
use Rattle.soc_model.specs.Chips.{SocValue}
use Rattle.plan_model.specs.Plans.{LimitsValue}
use Rattle.bound_certificate.specs.declared.sums.Sum.TheVariants.{Begun}
use Rattle.bound_certificate.specs.Nodes.{node_values, AreNodes}
use Rattle.bound_certificate.specs.Sums.{AreRight, HasSum}
use Rattle.bound_certificate.proofs.sums.greatest_sums.Given as goal

abbrev pub invariant-loop-test : goal.invariant-loop-test
invariant-loop-test l = record {
  long : length l.known.items ≡ length l.nodes;
  none_begun : (i : ℕ) → slice_get l.known.items i ≡ Some Begun → ⊥;
  right : (soc : SocValue) (limits : LimitsValue) → AreNodes soc limits (node_values l.nodes) → AreRight soc limits (node_values l.nodes) l.known.items;
  sums_long : length l.sums.items ≡ l.test;
  sums : (soc : SocValue) (limits : LimitsValue) → AreNodes soc limits (node_values l.nodes) → (i s : ℕ) → slice_get l.sums.items i ≡ Some s → HasSum soc limits (node_values l.nodes) i s;
}
