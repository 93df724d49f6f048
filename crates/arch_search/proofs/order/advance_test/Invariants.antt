use Rattle.std.proofs.Common.{◌≡◌, ◌<◌, ℕ, length, All}
use Rattle.arch_search.proofs.order.advance_test.Given as goal

abbrev pub invariant-loop-next : goal.invariant-loop-next
invariant-loop-next l = record {
  long : length l.order.items ≡ length l.initial.order.items;
  order : (n : ℕ) → All (λ test. test < n) l.initial.order.items → All (λ test. test < n) l.order.items;
  carried : (n : ℕ) → All (λ test. test < n) l.initial.order.items → l.carried < n;
}
