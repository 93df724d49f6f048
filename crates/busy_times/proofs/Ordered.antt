-- Ordered lists without one of their items.
use Rattle.std.proofs.Common.{ℕ, ◌+◌, ◌<◌, inl, inr, List, length, arith, ap}
use Rattle.std.{specs.List.remove, specs.List.Sorted.IsNonDecreasingBy, proofs.lemmas.Bool.cases_lt}
use Rattle.std.proofs.lemmas.List.Edits.{get_or-remove_below, get_or-remove_above, length-remove}

pub ordered_remove : {X : Type 0} (n : X → ℕ) (xs : List X) (i : ℕ) → IsNonDecreasingBy n xs → i < length xs → IsNonDecreasingBy n (remove xs i)
ordered_remove n xs i up lt a b d le less =
    let long = length-remove xs i lt in
    elim (cases_lt b i) [
      | inl low ↦ omega (arith, up a b d le (omega arith), ap n (get_or-remove_below xs i d a (omega arith) lt), ap n (get_or-remove_below xs i d b low lt))
      | inr high ↦ elim (cases_lt a i) [
        | inl low ↦ omega (arith, up a (b + 1) d (omega arith) (omega arith), ap n (get_or-remove_below xs i d a low lt), ap n (get_or-remove_above xs i d b high lt))
        | inr both ↦ omega (arith, up (a + 1) (b + 1) d (omega arith) (omega arith), ap n (get_or-remove_above xs i d a both lt), ap n (get_or-remove_above xs i d b high lt))
      ]
    ]
