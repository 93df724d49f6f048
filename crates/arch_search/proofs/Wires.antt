-- The wires of the buses, after some more are given.
use Rattle.std.proofs.Common.{◌≡◌, ℕ, ◌+◌, ◌<◌, ◌≤◌, false, List, length, get_or, set, arith, length-set, ◌==◌, sum_by}
use Rattle.std.proofs.lemmas.Bool.Decides.{nat_tests}
use Rattle.std.proofs.lemmas.List.Sums.{sum_by-set}

pub total_given : (ws : List ℕ) (i a left : ℕ) → i < length ws → a ≡ get_or ws i a → sum_by (λ (w : ℕ). w) ws + left ≡ length ws → sum_by (λ (w : ℕ). w) (set ws i (a + left)) ≤ length (set ws i (a + left))
total_given ws i a left within has all = omega (arith, sum_by-set (λ (w : ℕ). w) ws i (a + left) a within, has, all, length-set ws i (a + left))

pub some_there : (n : ℕ) → false ≡ (n == 0) → 0 < n
some_there n e = grind (arith, nat_tests)
