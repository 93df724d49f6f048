use Rattle.std.proofs.Common.{◌≡◌, ℕ, ◌<◌, Some, slice_get}
use Rattle.bound_certificate.proofs.precedence_lists.is_before.Given as goal

abbrev pub invariant-loop-a : goal.invariant-loop-a
invariant-loop-a l = (n : ℕ) → n < l.a-index → slice_get l.before n ≡ Some (l.first, l.second) → ⊥
