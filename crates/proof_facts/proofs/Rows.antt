-- Rows of a number for each width from 1 on.
use Rattle.std.proofs.Common.{◌≡◌, ℕ, ◌+◌, ◌++◌, List, [], ◌∷◌, map, ◌∙◌, sym, arith}
use Rattle.std.specs.List.{range_with_len}
use Rattle.std.proofs.lemmas.List.FromFn.{map-range_with_len_more}

pub row_more : (f : ℕ → ℕ) (n value : ℕ) (old new : List ℕ) → old ≡ map f (range_with_len 1 n) → value ≡ f (n + 1) → new ≡ old ++ value ∷ [] → new ≡ map f (range_with_len 1 (n + 1))
row_more f n value old new was is pushed = pushed ∙ rw (was, is) (sym (map-range_with_len_more f 1 n (n + 1) (omega arith)))
