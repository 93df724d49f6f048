-- The next word of a text: bits, and then other bytes.
use Rattle.std.proofs.Common.{◌≡◌, ◌⊎◌, inl, inr, ℕ, zero, suc, ◌+◌, ◌-◌, ◌<◌, ◌≤◌, ◌^◌, List, [], ◌∷◌, ◌++◌, Bool, true, false, ◌&&◌, nat_eq, length, take, drop, refl, sym, ◌∙◌, ap, subst, arith, length-drop}
use Rattle.std.specs.List.{list_all}
use Rattle.std.proofs.lemmas.Bool.{and_parts, cases_Bool, eqb-true}
use Rattle.std.proofs.lemmas.List.{drop-drop, length-take-le}
use Rattle.std.proofs.lemmas.List.Folds.{list_all-append}
use Rattle.outside.specs.Words.{words_left, ends_word, IsEnd, AllInWord}
use Rattle.outside.proofs.PieceLemmas.{take_add}
use Rattle.outside.proofs.WordLemmas.{first_word_at}
use Rattle.test_data.specs.DataWords.{is_bit, is_all_bits}
use Rattle.test_data.specs.DataPlaces.{IsNextWord}
use Rattle.test_data.proofs.BitWords.{is_one_of}

-- a bit ends no word
bit_in_word : (b : ℕ) → is_bit b ≡ true → ends_word b ≡ false
bit_in_word b e = by (is_one_of b e)
  where
    by : (b ≡ 48) ⊎ ((b ≡ 49) ⊎ ((b ≡ 88) ⊎ (b ≡ 120))) → ends_word b ≡ false
    by (inl f) = rw f refl
    by (inr (inl f)) = rw f refl
    by (inr (inr (inl f))) = rw f refl
    by (inr (inr (inr f))) = rw f refl

bits_in_word : (bs : List ℕ) → list_all is_bit bs ≡ true → AllInWord bs
bits_in_word [] e = tt
bits_in_word (b ∷ bs) e = let parts = and_parts (is_bit b) (list_all is_bit bs) e in (bit_in_word b parts.0, bits_in_word bs parts.1)

in_word_append : (xs ys : List ℕ) → AllInWord xs → AllInWord ys → AllInWord (xs ++ ys)
in_word_append [] ys first second = second
in_word_append (x ∷ xs) ys first second = (first.0, in_word_append xs ys first.1 second)

-- what stands at the front of a text: so many bits, and then so many other bytes of a word
pub record IsFront (text : List ℕ) (bits others : ℕ) : Type 0 where
  pub bits_fit : bits ≤ length text
  pub bits_are : list_all is_bit (take bits text) ≡ true
  pub next : (b : ℕ) (rest : List ℕ) → drop bits text ≡ b ∷ rest → is_bit b ≡ false
  pub others_fit : others ≤ length (drop bits text)
  pub others_in : AllInWord (take others (drop bits text))
  pub ends : IsEnd (drop others (drop bits text))

whole_in : (text : List ℕ) (bits others : ℕ) → IsFront text bits others → AllInWord (take (bits + others) text)
whole_in text bits others f = rw (take_add text bits others f.bits_fit) (in_word_append (take bits text) (take others (drop bits text)) (bits_in_word (take bits text) f.bits_are) f.others_in)

whole_ends : (text : List ℕ) (bits others : ℕ) → IsFront text bits others → IsEnd (drop (bits + others) text)
whole_ends text bits others f = subst IsEnd (drop-drop others bits text) f.ends

-- a front with another byte isn't all bits
other_byte : (rest : List ℕ) (others : ℕ) → 1 ≤ others → others ≤ length rest → ((b : ℕ) (more : List ℕ) → rest ≡ b ∷ more → is_bit b ≡ false) → list_all is_bit (take others rest) ≡ false
other_byte [] others some fit next = absurd (omega arith)
other_byte (b ∷ rest) zero some fit next = absurd (omega arith)
other_byte (b ∷ rest) (suc n) some fit next = rw (next b rest refl) refl

and_false : (a b : Bool) → b ≡ false → (a && b) ≡ false
and_false true b e = e
and_false false b e = refl

not_all_bits : (xs : List ℕ) → list_all is_bit xs ≡ false → is_all_bits xs ≡ false
not_all_bits [] e = refl
not_all_bits (x ∷ xs) e = e

not_all : (text : List ℕ) (bits others : ℕ) → IsFront text bits others → 1 ≤ others → false ≡ is_all_bits (take (bits + others) text)
not_all text bits others f some =
    let last = other_byte (drop bits text) others some f.others_fit f.next in
    let all : list_all is_bit (take (bits + others) text) ≡ false =
    ap (list_all is_bit) (take_add text bits others f.bits_fit) ∙ list_all-append is_bit (take bits text) (take others (drop bits text)) ∙ and_false (list_all is_bit (take bits text)) (list_all is_bit (take others (drop bits text))) last in
    sym (not_all_bits (take (bits + others) text) all)

some_all : (xs : List ℕ) → 1 ≤ length xs → list_all is_bit xs ≡ true → true ≡ is_all_bits xs
some_all [] some all = absurd (omega arith)
some_all (x ∷ xs) some all = sym all

all_of : (text : List ℕ) (bits : ℕ) → 1 ≤ bits → bits ≤ length text → list_all is_bit (take bits text) ≡ true → true ≡ is_all_bits (take bits text)
all_of text bits some fit all = some_all (take bits text) (omega (arith, length-take-le bits text fit)) all

all_or_not : (text : List ℕ) (bits others : ℕ) → IsFront text bits others → 1 ≤ bits + others → nat_eq others 0 ≡ is_all_bits (take (bits + others) text)
all_or_not text bits others f some = by others (cases_Bool (nat_eq others 0)) f some
  where
    nothing : (n : ℕ) → n + 0 ≡ n
    nothing n = omega arith

    by : (n : ℕ) → (nat_eq n 0 ≡ true) ⊎ (nat_eq n 0 ≡ false) → IsFront text bits n → 1 ≤ bits + n → nat_eq n 0 ≡ is_all_bits (take (bits + n) text)
    by zero none g more = subst (λ n. true ≡ is_all_bits (take n text)) (sym (nothing bits)) (all_of text bits (omega (arith, more)) g.bits_fit g.bits_are)
    by (suc n) (inl yes') g more = let e : suc n ≡ 0 = eqb-true (suc n) 0 yes' in absurd (omega (arith, e))
    by (suc n) (inr no') g more = no' ∙ not_all text bits (suc n) g (omega arith)

-- the word in the text around it
pub next_word : (bytes text : List ℕ) (place gap bits others line here : ℕ) → text ≡ drop gap (drop place bytes) → gap ≤ length (drop place bytes) → place ≤ length bytes →
    words_left line (drop place bytes) ≡ words_left here text → here + length text < 2 ^ 64 → IsFront text bits others → 1 ≤ bits + others →
    IsNextWord bytes place line (record { from = place + gap; len = bits + others; all_bits = nat_eq others 0; line = here })
next_word bytes text place gap bits others line here is gap_fits place_fits words small f some =
    let at : text ≡ drop (place + gap) bytes = is ∙ drop-drop gap place bytes in
    let rest : drop (bits + others) text ≡ drop ((place + gap) + (bits + others)) bytes = ap (drop (bits + others)) at ∙ drop-drop (bits + others) (place + gap) bytes in
    let long : length text ≡ length bytes - (place + gap) = ap length at ∙ length-drop (place + gap) bytes in
    let fits : bits + others ≤ length text = omega (arith, f.bits_fit, f.others_fit, length-drop bits text) in
    let first_long : length (take (bits + others) text) ≡ bits + others = length-take-le (bits + others) text fits in
    let split : words_left here text ≡ (take (bits + others) text, here) ∷ words_left here (drop (bits + others) text) =
    first_word_at here text (take (bits + others) text) (drop (bits + others) text) (bits + others) refl refl (omega (arith, first_long, some)) (whole_in text bits others f) (whole_ends text bits others f) in
    let before : length (drop place bytes) ≡ length bytes - place = length-drop place bytes in
    record {
      words = words ∙ split ∙ ap (λ t. (take (bits + others) t, here) ∷ words_left here (drop (bits + others) text)) at ∙ ap (λ t. (take (bits + others) (drop (place + gap) bytes), here) ∷ words_left here t) rest;
      spot = record {
        some = some;
        ends = omega (arith, fits, long, gap_fits, place_fits, before);
        all_bits = all_or_not text bits others f some ∙ ap (λ t. is_all_bits (take (bits + others) t)) at;
      };
      later = omega arith;
      small = omega (arith, small, ap length rest, length-drop (bits + others) text);
    }
