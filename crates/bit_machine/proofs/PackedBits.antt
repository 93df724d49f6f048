-- Bits in words of 64.
use Rattle.std.proofs.Common.{◌≡◌, ◌≢◌, ℕ, zero, suc, ◌*◌, ◌/◌, ◌%◌, ◌-◌, ◌^◌, ◌≤◌, ◌<◌, ◌⊎◌, Bool, true, false, nat_eq, bit_and, bit_or, List, length, get_or, set, replicate, refl, ap, sym, ◌∙◌, arith, inl, inr, zero-add, w64}
use Rattle.std.specs.List.{range_with_len}
use Rattle.std.proofs.lemmas.List.{length-map, length-set, length-replicate, get_or-set_same, get_or-set_other, same_lists}
use Rattle.std.proofs.lemmas.List.FromFn.{get_or-map-range_with_len, length-range_with_len}
use Rattle.std.proofs.lemmas.Nat.Bits.{bit_at-zero, bit_at_set_same, bit_at_set_other, bit_at_clear_same, bit_at_clear_other}
use Rattle.std.proofs.lemmas.Bool.{cases_eq}
use Rattle.bit_machine.specs.Packed.{is_set, word_bit, packed}
use Rattle.common_lemmas.proofs.Lists.{any_default}

-- ---- one word

module _ (n k : ℕ) (h : k < 64) where
  pub set_here : is_set (bit_or n (1 * 2 ^ k % 18446744073709551616)) k ≡ true
  set_here = ap (λ d. nat_eq d 1) (bit_at_set_same w64 n k h)

  pub set_other : (i : ℕ) → i < 64 → i ≢ k → is_set (bit_or n (1 * 2 ^ k % 18446744073709551616)) i ≡ is_set n i
  set_other i l other = ap (λ d. nat_eq d 1) (bit_at_set_other w64 n k h i other)

  pub cleared_here : is_set (bit_and n (18446744073709551615 - 1 * 2 ^ k % 18446744073709551616)) k ≡ false
  cleared_here = ap (λ d. nat_eq d 1) (bit_at_clear_same w64 n k h)

  pub cleared_other : (i : ℕ) → i < 64 → i ≢ k → is_set (bit_and n (18446744073709551615 - 1 * 2 ^ k % 18446744073709551616)) i ≡ is_set n i
  cleared_other i l other = ap (λ d. nat_eq d 1) (bit_at_clear_other w64 n k h i l other)

-- ---- all bits

module _ (words : List ℕ) (n : ℕ) where
  pub packed_long : length (packed words n) ≡ n
  packed_long = length-map (range_with_len 0 n) (word_bit words) ∙ length-range_with_len 0 n

  pub packed_at : (i : ℕ) → i < n → get_or (packed words n) i false ≡ word_bit words i
  packed_at i h = get_or-map-range_with_len (word_bit words) 0 n i i false h (zero-add i)

  -- a list of bits that is known place by place
  pub packed_is : (bits : List Bool) → length bits ≡ n → ((i : ℕ) → i < n → word_bit words i ≡ get_or bits i false) → packed words n ≡ bits
  packed_is bits long each =
      same_lists (packed words n) bits (packed_long ∙ sym long) (λ i d h.
      let within : i < n = omega (arith, packed_long) in
      any_default (packed words n) i d false h ∙ packed_at i within ∙ each i within ∙ any_default bits i false d (omega (arith, long)))

same_at : (k i x : ℕ) → get_or (replicate k x) i x ≡ x
same_at zero i x = refl
same_at (suc k) zero x = refl
same_at (suc k) (suc i) x = same_at k i x

false_at : (k i : ℕ) → get_or (replicate k false) i false ≡ false
false_at zero i = refl
false_at (suc k) zero = refl
false_at (suc k) (suc i) = false_at k i

pub packed_zeros : {words : List ℕ} (k n : ℕ) → words ≡ replicate k 0 → packed words n ≡ replicate n false
packed_zeros k n are =
    rw are (packed_is (replicate k 0) n (replicate n false) (length-replicate n false) (λ i h.
    ap (λ w. is_set w (i % 64)) (same_at k (i / 64) 0) ∙ ap (λ d. nat_eq d 1) (bit_at-zero (i % 64)) ∙ sym (false_at n i)))

pub packed_put : (words : List ℕ) (n i w : ℕ) {b : Bool} → n ≤ 64 * length words → i < n → is_set w (i % 64) ≡ b →
    ((j : ℕ) → j < 64 → j ≢ i % 64 → is_set w j ≡ is_set (get_or words (i / 64) 0) j) → packed (set words (i / 64) w) n ≡ set (packed words n) i b
packed_put words n i w {b} fits h here others =
    packed_is (set words (i / 64) w) n (set (packed words n) i b) (length-set (packed words n) i b ∙ packed_long words n) (λ j less. at j less (cases_eq j i))
  where
    long : length (packed words n) ≡ n
    long = packed_long words n

    at_other : (j : ℕ) → j < n → j ≢ i → (j / 64 ≡ i / 64) ⊎ (j / 64 ≢ i / 64) → word_bit (set words (i / 64) w) j ≡ word_bit words j
    at_other j less apart (inl same) =
        let within : i / 64 < length words = omega arith in
        let place : j % 64 ≢ i % 64 = λ e. apart (omega arith) in
        let low : j % 64 < 64 = omega arith in
        ap (λ q. is_set (get_or (set words (i / 64) w) q 0) (j % 64)) same
        ∙ ap (λ v. is_set v (j % 64)) (get_or-set_same words (i / 64) w 0 within)
        ∙ others (j % 64) low place ∙ ap (λ q. is_set (get_or words q 0) (j % 64)) (sym same)
    at_other j less apart (inr other) = ap (λ v. is_set v (j % 64)) (get_or-set_other words (i / 64) (j / 64) w 0 other)

    at : (j : ℕ) → j < n → (j ≡ i) ⊎ (j ≢ i) → word_bit (set words (i / 64) w) j ≡ get_or (set (packed words n) i b) j false
    at j less (inl same) =
        let within : i / 64 < length words = omega arith in
        rw same (ap (λ v. is_set v (i % 64)) (get_or-set_same words (i / 64) w 0 within) ∙ here ∙ sym (get_or-set_same (packed words n) i b false (omega (arith, long))))
    at j less (inr other) = at_other j less other (cases_eq (j / 64) (i / 64)) ∙ sym (get_or-set_other (packed words n) i j b false other ∙ packed_at words n j less)
