-- How many digits times and codes have, and the codes of variables.
use Rattle.std.proofs.Common.{◌≡◌, ℕ, ◌+◌, ◌*◌, ◌≤◌, ◌<◌, ◌^◌, List, [], ◌∷◌, ◌++◌, ◌⊎◌, length, get_or, decimal, refl, ap, sym, subst, arith, inl, inr}
use Rattle.std.proofs.lemmas.Fmt.{length-decimal-le}
use Rattle.std.proofs.lemmas.List.{length-append, get_or_append_left, get_or_at}
use Rattle.tester_forms.specs.declared.vcd_code.Code.{Code}
use Rattle.tester_forms.specs.Forms.{AreCodes, IsCode}

pub eleven_digits : (cycle : ℕ) (digits text : List ℕ) → cycle ≤ 1000000000 → digits ≡ text → text ≡ decimal (10 * cycle) → length digits ≤ 11
eleven_digits cycle digits text few is text_is =
    let most : length (decimal (10 * cycle)) ≤ 11 = length-decimal-le 11 (10 * cycle) (omega arith) (omega (arith, few)) (omega (arith, few)) in
    omega (arith, most, ap length is, ap length text_is)

pub four_digits : (number : ℕ) (digits text : List ℕ) → number < 10 ^ 4 → digits ≡ text → text ≡ decimal number → length digits ≤ 4
four_digits number digits text few is text_is =
    let most : length (decimal number) ≤ 4 = length-decimal-le 4 number (omega arith) few (omega (arith, few)) in
    omega (arith, most, ap length is, ap length text_is)

pub no_codes : AreCodes 0 []
no_codes = record { long = refl; each = λ number other less. absurd (omega (arith, less)) }

pub codes_more : (count : ℕ) (all : List Code) (code : Code) → AreCodes count all → IsCode count code → AreCodes (count + 1) (all ++ code ∷ [])
codes_more count all code are is = record {
  long = omega (arith, length-append all (code ∷ []), are.long);
  each = λ number other less. by number other less (at_most number count (omega (arith, less)));
}
  where
    at_most : (number count : ℕ) → number ≤ count → (number < count) ⊎ (number ≡ count)
    at_most number count less = grind arith

    by : (number : ℕ) (other : Code) → number < count + 1 → (number < count) ⊎ (number ≡ count) → IsCode number (get_or (all ++ code ∷ []) number other)
    by number other less (inl before) = subst (IsCode number) (sym (get_or_append_left all (code ∷ []) other number (omega (arith, before, are.long)))) (are.each number other before)
    by number other less (inr last) = subst (λ k. IsCode k (get_or (all ++ code ∷ []) k other)) (sym last) (subst (IsCode count) (sym (get_or_at all code [] other count are.long)) is)
