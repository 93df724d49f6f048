-- A keyword is looked for among those of the word's length.
use Rattle.std.proofs.Common.{◌≡◌, ℕ, ◌<◌, List, [], ◌∷◌, map, filter, length, Bool, true, false, cond, nat_eq, Option, None, Some, refl, sym, ◌∙◌, ap, true≢false, arith, nat_le}
use Rattle.std.proofs.lemmas.Grind.{common_steps}
use Rattle.std.specs.Char.{to_ascii_lowercase}
use Rattle.std.specs.Cmp.Lexicographic.{as_long}
use Rattle.std.proofs.lemmas.List.{length-map}
use Rattle.outside.specs.Words.{same_letters}
use Rattle.soc_reader.specs.declared.keys.Key.{Key}
use Rattle.soc_reader.specs.Keywords.{keywords, named, sized}
use Rattle.common_lemmas.proofs.Tests.{same_number}

-- words that are the same but for the case of letters are as long
as_many : (a b : List ℕ) → same_letters a b ≡ true → length a ≡ length b
as_many a b same =
    sym (length-map a to_ascii_lowercase) ∙ as_long nat_eq (map to_ascii_lowercase a) (map to_ascii_lowercase b) same ∙ length-map b to_ascii_lowercase

among : (test : ℕ → Bool) (ks : List (List ℕ × Key)) (w : List ℕ) → test (length w) ≡ true → named ks w ≡ named (filter (λ k. test (length k.0)) ks) w
among test [] w own = refl
among test (k ∷ ks) w own = by (test (length k.0)) (same_letters w k.0) refl refl (among test ks w own)
  where
    by : (kept same : Bool) → test (length k.0) ≡ kept → same_letters w k.0 ≡ same → named ks w ≡ named (filter (λ k. test (length k.0)) ks) w → named (k ∷ ks) w ≡ named (filter (λ k. test (length k.0)) (k ∷ ks)) w
    by true same keeps is rest = rw keeps (ap (λ o. cond (same_letters w k.0) (Some k.1) o) rest)
    by false true keeps is rest = absurd (true≢false (sym own ∙ ap test (as_many w k.0 is) ∙ keeps))
    by false false keeps is rest = rw (keeps, is) rest

-- the keyword of a word whose length passes the test
pub named-sized : (test : ℕ → Bool) (w : List ℕ) → test (length w) ≡ true → named keywords w ≡ named (sized test) w
named-sized test w own = among test keywords w own

-- of a word of a length
pub of_length : (n : ℕ) (w : List ℕ) (o : Option Key) → o ≡ named (sized (nat_eq n)) w → length w ≡ n → o ≡ named keywords w
of_length n w o is long = is ∙ sym (named-sized (nat_eq n) w (ap (nat_eq n) long ∙ same_number n))

-- of a longer word
pub of_more : (w : List ℕ) (o : Option Key) → o ≡ named (sized (nat_le 8)) w → 7 < length w → o ≡ named keywords w
of_more w o is long = is ∙ sym (named-sized (nat_le 8) w (grind (arith, common_steps)))

-- of a shorter word
pub of_fewer : (w : List ℕ) → length w < 4 → None ≡ named keywords w
of_fewer w short = sym (named-sized (λ n. nat_le n 3) w (grind (arith, common_steps)))
