-- Numbers.
use Rattle.std.proofs.Common.{ℕ, ◌<◌, ◌≤◌, ◌⊎◌, arith, ◌≡◌, zero, suc, ◌+◌, ◌*◌, ◌%◌, refl, ap, sym, ◌∙◌, true, false, inl, inr, eqb, ltb}
use Rattle.std.proofs.lemmas.Nat.{mod-mul-add}
use Rattle.std.proofs.Math.Nat.{mul-le-mul_right}
use Rattle.std.specs.Ordering.{nat_cmp, ordering_then, is_lt}
use Rattle.std.proofs.lemmas.Bool.{cases_lt, cases_eq, lt-ltb, le-ltb, eq-eqb}

-- two numbers
pub less_or_not : (a b : ℕ) → (a < b) ⊎ (b ≤ a)
less_or_not a b = grind arith

pub three_ways : (a b : ℕ) → (a < b) ⊎ ((a ≡ b) ⊎ (b < a))
three_ways a b = grind arith

-- a number has one quotient and one rest
pub same_block : (w r c r' c' : ℕ) → c < w → c' < w → r * w + c ≡ r' * w + c' → (r ≡ r') × (c ≡ c')
same_block w r c r' c' h h' same =
    let rests : c ≡ c' = sym (mod-mul-add r w c h) ∙ ap (λ v. v % w) same ∙ mod-mul-add r' w c' h' in
    (cancel w r r' (omega arith) (omega (arith, rests, same)), rests)
  where
    cancel : (w d e : ℕ) → 0 < w → d * w ≡ e * w → d ≡ e
    cancel w zero zero h same = refl
    cancel w zero (suc e) h same = absurd (omega arith)
    cancel w (suc d) zero h same = absurd (omega arith)
    cancel w (suc d) (suc e) h same = ap suc (cancel w d e h (omega arith))

pub below_or_at : (p i : ℕ) → p < i + 1 → (p < i) ⊎ (p ≡ i)
below_or_at p i h = grind arith

-- fewer blocks fit where more do
pub block_fits : (count lines line size : ℕ) → count ≤ lines → lines * line ≤ size → count * line ≤ size
block_fits count lines line size few fits =
    let less : count * line ≤ lines * line = mul-le-mul_right line few in
    omega (arith, less, fits)

pub product_out : (b m : ℕ) → (1 + b) * suc m ≡ suc m + m * b + b
product_out b m = omega arith

-- two keys that aren't less
pub not_less : (a b c d : ℕ) → is_lt (ordering_then (nat_cmp a b) (nat_cmp c d)) ≡ false → (b < a) ⊎ ((a ≡ b) × (d ≤ c))
not_less a b c d h = elim (cases_lt a b) [
  | inl less ↦ let t : ltb a b ≡ true = lt-ltb a b less in let wrong : true ≡ false = rw t at h in absurd cc
  | inr no' ↦ elim (cases_eq a b) [
    | inl e ↦
        let t : ltb a b ≡ false = le-ltb a b no' in
        let t' : eqb a b ≡ true = eq-eqb a b e in
        let h' : is_lt (nat_cmp c d) ≡ false = rw (t, t') at h in
        elim (cases_lt c d) [
          | inl less ↦ let u : ltb c d ≡ true = lt-ltb c d less in let wrong : true ≡ false = rw u at h' in absurd cc
          | inr le ↦ inr (e, le)
        ]
    | inr ne ↦ inl (omega (arith, ne))
  ]
]
