-- Made bits may be counted from rests modulo 997.
use Rattle.std.proofs.Common.{◌≡◌, ℕ, ◌+◌, ◌*◌, ◌/◌, ◌%◌, sym, ap, ◌∙◌, arith}
use Rattle.std.proofs.Math.Nat.{mod-add-div, add-mul-mod_self_left, mod-add-mod}
use Rattle.vector_lines.specs.Made.{has_odd_square, made_bit, made_from}

pub same_rest : (m x y z : ℕ) → x ≡ y + m * z → x % m ≡ y % m
same_rest m x y z e = ap (λ v. v % m) e ∙ add-mul-mod_self_left y m z

module _ (m : ℕ) {k n : ℕ} (a b u v : ℕ) (e : k ≡ a + m * u) (f : n ≡ b + m * v) where
  -- what a pattern and a bit's number add
  product_rest : n * k ≡ b * a + m * (b * u + v * a + m * (v * u))
  product_rest = rw (e, f) (omega arith)

  pub pattern_rest : (base s : ℕ) → (base + 101 * a + 7 * b + 3 * (b * a) + s) % m ≡ (base + 101 * k + 7 * n + 3 * (n * k) + s) % m
  pattern_rest base s =
      let p = product_rest in
      sym (same_rest m (base + 101 * k + 7 * n + 3 * (n * k) + s) (base + 101 * a + 7 * b + 3 * (b * a) + s) (101 * u + 7 * v + 3 * (b * u + v * a + m * (v * u))) (omega arith))

pub rest_of : (n m : ℕ) → n ≡ n % m + m * (n / m)
rest_of n m = sym (mod-add-div n m)

-- the made bit, from what the seed and the places add
whole_rest : (m a b c d e x : ℕ) → (((a % m + b) + c) + d + e) % m ≡ (a + b + c + d + e) % m
whole_rest m a b c d e x =
    let u : ((a % m + b) + c) + d + e ≡ a % m + (b + c + d + e) = omega arith in
    let w : a + b + c + d + e ≡ a + (b + c + d + e) = omega arith in
    ap (λ v. v % m) u ∙ mod-add-mod a m (b + c + d + e) ∙ ap (λ v. v % m) (sym w)

pub made_from_is : (seed m t k n s : ℕ) → made_from ((seed + 31 * m + 17 * t) % 997) k n s ≡ made_bit seed m t k n s
unfolding made_from made_bit
made_from_is seed m t k n s = ap has_odd_square (whole_rest 997 (seed + 31 * m + 17 * t) (101 * k) (7 * n) (3 * (n * k)) s 0)
