-- A row of bits that is filled wire by wire.
use Rattle.std.proofs.Common.{◌≡◌, ℕ, ◌+◌, ◌<◌, Bool, false, List, length, get_or, map, set, sym, subst, ◌∙◌, arith, inl, inr, zero-add}
use Rattle.std.specs.List.{range_with_len}
use Rattle.std.proofs.lemmas.List.{get_or-set_same, get_or-set_other, length-map, same_lists}
use Rattle.std.proofs.lemmas.List.FromFn.{get_or-map-range_with_len, length-range_with_len}
use Rattle.std.proofs.lemmas.Bool.{cases_eq}
use Rattle.common_lemmas.proofs.Lists.{any_default}

pub fill_more : (P : ℕ → Bool → Type 0) (xs : List Bool) (n : ℕ) (b : Bool) → n < length xs → P n b → ((w : ℕ) → w < n → P w (get_or xs w false)) → (w : ℕ) → w < n + 1 → P w (get_or (set xs n b) w false)
fill_more P xs n b h here before w less = elim (cases_eq w n) [
  | inl same ↦ subst (λ w. P w (get_or (set xs n b) w false)) (sym same) (subst (P n) (sym (get_or-set_same xs n b false h)) here)
  | inr other ↦ subst (P w) (sym (get_or-set_other xs n w b false other)) (before w (omega arith))
]

-- a row that is known bit by bit
pub filled : (f : ℕ → Bool) (xs : List Bool) {n : ℕ} → length xs ≡ n → ((w : ℕ) → w < length xs → get_or xs w false ≡ f w) →
    xs ≡ map f (range_with_len 0 n)
filled f xs {n} long each =
    same_lists xs (map f (range_with_len 0 n)) (long ∙ sym (length-map (range_with_len 0 n) f ∙ length-range_with_len 0 n))
    (λ w d h. any_default xs w d false h ∙ each w h ∙ sym (get_or-map-range_with_len f 0 n w w d (omega arith) (zero-add w)))
