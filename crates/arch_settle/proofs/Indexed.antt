-- A list that is known place by place, with one more at its end.
use Rattle.std.proofs.Common.{◌≡◌, ℕ, ◌+◌, ◌<◌, inl, inr, List, [], ◌∷◌, ◌++◌, length, arith, ◌∙◌, subst}
use Rattle.std.specs.Prelude.{slice_index}
use Rattle.std.proofs.lemmas.Bool.{cases_lt}
use Rattle.std.proofs.lemmas.List.{get_or_append_left, get_or_push}

pub index_more : (more old : List ℕ) (x n : ℕ) (f : ℕ → ℕ) → more ≡ old ++ x ∷ [] → length old ≡ n → ((i : ℕ) → i < n → slice_index old i ≡ f i) → x ≡ f n → (i : ℕ) → i < n + 1 → slice_index more i ≡ f i
index_more more old x n f is long so here i less = rw is (elim (cases_lt i n) [
  | inl before ↦ get_or_append_left old (x ∷ []) 0 i (omega (arith, before, long)) ∙ so i before
  | inr past ↦ subst (λ (k : ℕ). slice_index (old ++ x ∷ []) k ≡ f k) (omega (arith, past, less)) (get_or_push old x 0 n long ∙ here)
])
