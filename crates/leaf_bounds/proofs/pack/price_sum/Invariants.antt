use Rattle.std.proofs.Common.{◌≡◌, ◌≤◌, ◌*◌, ◌^◌, ℕ, take, sum_by}
use Rattle.leaf_bounds.proofs.pack.price_sum.Given as goal

abbrev pub invariant-loop-item : goal.invariant-loop-item
invariant-loop-item l = record {
  sum : l.sum ≡ sum_by (λ (p : ℕ × ℕ). p.1) (take l.item l.pricing.prices.items);
  few : l.sum ≤ l.item * 10 ^ 15;
}
