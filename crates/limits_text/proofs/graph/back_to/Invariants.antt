use Rattle.std.proofs.Common.{◌≡◌, ℕ, ◌-◌, ◌<◌, length, slice_get}
use Rattle.limits_text.proofs.graph.back_to.Given as goal

abbrev pub invariant-loop-back : goal.invariant-loop-back
invariant-loop-back l = (length l.circle.items ≡ l.back) × ((k : ℕ) → k < l.back → slice_get l.circle.items k ≡ slice_get l.walk (length l.walk - 1 - k))
