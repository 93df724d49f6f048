use Rattle.std.proofs.Common.{◌≡◌, ℕ, ◌+◌, ◌<◌, ◌≤◌, length, slice_index}
use Rattle.leaf_bounds.specs.ListTables.{role_at}
use Rattle.leaf_bounds.specs.LeafCosts.{in_weight}
use Rattle.leaf_bounds.proofs.leaf_costs.add_in.Given as goal

abbrev pub invariant-loop-test : goal.invariant-loop-test
invariant-loop-test l = record {
  long : length l.sums ≡ length l.initial.sums;
  done : (i : ℕ) → i < l.test → slice_index l.sums i ≡ slice_index l.initial.sums i + in_weight (role_at l.table l.list i) l.weight;
  rest : (i : ℕ) → l.test ≤ i → slice_index l.sums i ≡ slice_index l.initial.sums i;
}
