-- The wires of the buses, after some of them have moved.
use Rattle.std.proofs.Common.{◌≡◌, ℕ, ◌+◌, ◌<◌, ◌≤◌, List, length, get_or, set, arith, sym, ◌∙◌, subst, length-set, All, sum_by}
use Rattle.std.proofs.lemmas.List.Sums.{sum_by-set}

pub total_moved : (ws : List ℕ) (from to a less b more : ℕ) → from < length ws → to < length ws → a ≡ get_or ws from a → b ≡ get_or (set ws from less) to b → less + more ≤ a + b →
    sum_by (λ (w : ℕ). w) ws ≤ length ws → sum_by (λ (w : ℕ). w) (set (set ws from less) to more) ≤ length (set (set ws from less) to more)
total_moved ws from to a less b more f t has has' moves few =
    let long : length (set ws from less) ≡ length ws = length-set ws from less in
    let there : to < length (set ws from less) = omega (arith, t, long) in
    let taken = sum_by-set (λ (w : ℕ). w) ws from less a f in
    let given = sum_by-set (λ (w : ℕ). w) (set ws from less) to more b there in
    omega (arith, taken, given, has, has', moves, few, long, length-set (set ws from less) to more)

pub within_moved : (ws slots : List ℕ) (i j a b : ℕ) → All (λ slot. slot < length ws) slots → All (λ slot. slot < length (set (set ws i a) j b)) slots
within_moved ws slots i j a b all = subst (λ (n : ℕ). All (λ slot. slot < n) slots) (sym (length-set (set ws i a) j b ∙ length-set ws i a)) all

pub long_moved : (ws loads : List ℕ) (i j a b : ℕ) → length loads ≡ length ws → length loads ≡ length (set (set ws i a) j b)
long_moved ws loads i j a b long = long ∙ sym (length-set (set ws i a) j b ∙ length-set ws i a)
