-- A bit word is no keyword.
use Rattle.std.proofs.Common.{◌≡◌, ◌⊎◌, inl, inr, ℕ, List, [], ◌∷◌, true, false, nat_eq, map, codes, None, Some, refl, sym}
use Rattle.std.specs.List.{list_all}
use Rattle.std.proofs.lemmas.Bool.{cases_Bool, eqb-true, and_parts}
use Rattle.outside.specs.Words.{same_letters}
use Rattle.outside.proofs.WordLemmas.{same_bytes}
use Rattle.test_data.specs.declared.DataBit.{DataBit}
use Rattle.test_data.specs.DataWords.{is_bit, is_dash, is_all_bits, bit_of, bit_word}

-- what a byte is that is a bit
pub is_one_of : (b : ℕ) → is_bit b ≡ true → (b ≡ 48) ⊎ ((b ≡ 49) ⊎ ((b ≡ 88) ⊎ (b ≡ 120)))
is_one_of b e = by (cases_Bool (nat_eq b 48)) (cases_Bool (nat_eq b 49)) (cases_Bool (nat_eq b 88)) (cases_Bool (nat_eq b 120))
  where
    by : (nat_eq b 48 ≡ true) ⊎ (nat_eq b 48 ≡ false) → (nat_eq b 49 ≡ true) ⊎ (nat_eq b 49 ≡ false) → (nat_eq b 88 ≡ true) ⊎ (nat_eq b 88 ≡ false) → (nat_eq b 120 ≡ true) ⊎ (nat_eq b 120 ≡ false)
        → (b ≡ 48) ⊎ ((b ≡ 49) ⊎ ((b ≡ 88) ⊎ (b ≡ 120)))
    by (inl y) b2 c2 d2 = inl (eqb-true b 48 y)
    by (inr n) (inl y) c2 d2 = inr (inl (eqb-true b 49 y))
    by (inr n) (inr m) (inl y) d2 = inr (inr (inl (eqb-true b 88 y)))
    by (inr n) (inr m) (inr o) (inl y) = inr (inr (inr (eqb-true b 120 y)))
    by (inr n) (inr m) (inr o) (inr q) = absurd (let f = rw (n, m, o, q) at e in cc)

-- it begins no `Test`
bit_head : (b : ℕ) (bs : List ℕ) → (b ≡ 48) ⊎ ((b ≡ 49) ⊎ ((b ≡ 88) ⊎ (b ≡ 120))) → same_letters (b ∷ bs) (codes "Test") ≡ false
bit_head b bs (inl e) = rw e refl
bit_head b bs (inr (inl e)) = rw e refl
bit_head b bs (inr (inr (inl e))) = rw e refl
bit_head b bs (inr (inr (inr e))) = rw e refl

all_bits_no_header : (word : List ℕ) → is_all_bits word ≡ true → same_letters word (codes "Test") ≡ false
all_bits_no_header [] e = cc
all_bits_no_header (b ∷ bs) e = bit_head b bs (is_one_of b (and_parts (is_bit b) (list_all is_bit bs) e).0)

dash_no_header : (word : List ℕ) → is_dash word ≡ true → same_letters word (codes "Test") ≡ false
dash_no_header word e = rw (same_bytes word (codes "-") e) refl

-- a bit word isn't `Test`
pub bits_no_header : (word : List ℕ) (bs : List DataBit) → bit_word word ≡ Some bs → same_letters word (codes "Test") ≡ false
unfolding bit_word
bits_no_header word bs e = by (cases_Bool (is_all_bits word)) (cases_Bool (is_dash word))
  where
    by : (is_all_bits word ≡ true) ⊎ (is_all_bits word ≡ false) → (is_dash word ≡ true) ⊎ (is_dash word ≡ false) → same_letters word (codes "Test") ≡ false
    by (inl y) d = all_bits_no_header word y
    by (inr n) (inl y) = dash_no_header word y
    by (inr n) (inr m) = absurd (let f = rw (n, m) at e in cc)

-- ---- what a word stands for

pub all_bits_word : (word : List ℕ) → true ≡ is_all_bits word → Some (map bit_of word) ≡ bit_word word
unfolding bit_word
all_bits_word word e = rw (sym e) refl

pub dash_word : (word : List ℕ) → false ≡ is_all_bits word → is_dash word ≡ true → Some [] ≡ bit_word word
unfolding bit_word
dash_word word e d = rw (sym e, d) refl

pub no_bit_word : (word : List ℕ) → false ≡ is_all_bits word → is_dash word ≡ false → None ≡ bit_word word
unfolding bit_word
no_bit_word word e d = rw (sym e, d) refl
