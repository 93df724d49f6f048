-- The table of the bytes that end words.
use Rattle.std.proofs.Common.{◌≡◌, ◌⊎◌, inl, inr, ℕ, zero, suc, ◌<◌, Bool, true, false, ◌&&◌, not, get_or, refl, sym, ◌∙◌, ap, arith}
use Rattle.std.proofs.lemmas.Bool.{cases_eq}
use Rattle.outside.specs.declared.words.TheConstants.{ENDS}
use Rattle.outside.specs.Words.{ends_word}

abbrev same : Bool → Bool → Bool
same true b = b
same false b = not b

same_is : (a b : Bool) → same a b ≡ true → a ≡ b
same_is true true e = refl
same_is true false e = cc
same_is false true e = cc
same_is false false e = refl

both : (p q : Bool) → (p && q) ≡ true → (p ≡ true) × (q ≡ true)
both true q e = (refl, e)
both false q e = cc

-- the table is right up to a byte
abbrev right_below : ℕ → Bool
right_below zero = true
right_below (suc b) = same (get_or ENDS b false) (ends_word b) && right_below b

at_byte : (n b : ℕ) → right_below n ≡ true → b < n → get_or ENDS b false ≡ ends_word b
at_byte zero b right less = absurd (omega (arith, less))
at_byte (suc n) b right less = by (both (same (get_or ENDS n false) (ends_word n)) (right_below n) right) (cases_eq b n) (λ (rest : right_below n ≡ true) (l : b < n). at_byte n b rest l)
  where
    by : (same (get_or ENDS n false) (ends_word n) ≡ true) × (right_below n ≡ true) → (b ≡ n) ⊎ (b ≡ n → ⊥) → (right_below n ≡ true → b < n → get_or ENDS b false ≡ ends_word b) → get_or ENDS b false ≡ ends_word b
    by parts (inl here) rest = ap (λ k. get_or ENDS k false) here ∙ same_is (get_or ENDS n false) (ends_word n) parts.0 ∙ ap ends_word (sym here)
    by parts (inr apart) rest = rest parts.1 (omega (arith, less, apart))

-- what the table has of a byte
pub ENDS_at : (b : ℕ) → b < 256 → get_or ENDS b false ≡ ends_word b
ENDS_at b less = at_byte 256 b refl less
