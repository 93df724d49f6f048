use Rattle.std.proofs.Common.{◌≡◌, ℕ, ◌≤◌, ◌⊎◌, None, take}
use Rattle.std.specs.{Prelude.slice_index_or, Prelude.unwrap_or, List.All, List.Contains}
use Rattle.resource_table.proofs.table.latest_end.Given as goal

abbrev pub invariant-loop-test : goal.invariant-loop-test
invariant-loop-test l = record {
  latest : All (λ test. unwrap_or (slice_index_or l.ends test None) 0 ≤ l.latest) (take l.test-index l.tests);
  is : (l.latest ≡ 0) ⊎ ((test : ℕ) × Contains l.tests test × (l.latest ≡ unwrap_or (slice_index_or l.ends test None) 0));
}
