use Rattle.std.proofs.Common.{◌≡◌, ◌<◌, ℕ, slice_index}
use Rattle.leaf_bounds.specs.PackLeaves.{numbers_priced}
use Rattle.leaf_bounds.proofs.pack_rules.is_priced.Given as goal

abbrev pub invariant-loop-at : goal.invariant-loop-at
invariant-loop-at l = (q : ℕ) → q < l.at → slice_index (numbers_priced l.prices) q ≡ l.number → ⊥
