-- The first wires of buses, one after another.
use Rattle.std.proofs.Common.{◌≡◌, ℕ, zero, suc, ◌+◌, ◌≤◌, ◌<◌, inl, inr, List, [], ◌∷◌, ◌++◌, length, get_or, take, refl, ap, sym, ◌∙◌, arith}
use Rattle.std.specs.Prelude.{slice_index}
use Rattle.std.specs.List.{sum}
use Rattle.std.proofs.lemmas.Bool.{cases_lt}
use Rattle.std.proofs.lemmas.List.{get_or_append_left, take_all}
use Rattle.live_tests.specs.Wires.{AreFirstWires}

get_or_last : (xs : List ℕ) (x b : ℕ) → b ≡ length xs → slice_index (xs ++ x ∷ []) b ≡ x
get_or_last [] x zero e = refl
get_or_last [] x (suc b) e = absurd (omega arith)
get_or_last (y ∷ xs) x zero e = absurd (omega arith)
get_or_last (y ∷ xs) x (suc b) e = get_or_last xs x b (omega arith)

-- one first wire more
pub firsts_more : (widths firsts new : List ℕ) (k first : ℕ) → length firsts ≡ k → first ≡ sum (take k widths) → ((b : ℕ) → b < k → slice_index firsts b ≡ sum (take b widths)) → new ≡ firsts ++ first ∷ [] → (b : ℕ) → b < k + 1 → slice_index new b ≡ sum (take b widths)
firsts_more widths firsts new k first long total each pushed b h = elim (cases_lt b k) [
  | inl less ↦ ap (λ xs. slice_index xs b) pushed ∙ get_or_append_left firsts (first ∷ []) 0 b (omega arith) ∙ each b less
  | inr more ↦
      let same : b ≡ k = omega arith in
      ap (λ xs. slice_index xs b) pushed ∙ get_or_last firsts first b (omega arith) ∙ total ∙ ap (λ n. sum (take n widths)) (sym same)
]

-- the entry of a bus
pub first_at : (widths firsts : List ℕ) (bus wire : ℕ) → AreFirstWires widths firsts → bus ≤ length widths → wire ≡ get_or firsts bus wire → wire ≡ sum (take bus widths)
first_at widths firsts bus wire are within is =
    let long : length firsts ≡ length widths + 1 = are.long in
    is ∙ same_default firsts bus wire 0 (omega arith) ∙ are.first bus within
  where
    same_default : (xs : List ℕ) (i d e : ℕ) → i < length xs → get_or xs i d ≡ get_or xs i e
    same_default [] i d e h = absurd (omega arith)
    same_default (x ∷ xs) zero d e h = refl
    same_default (x ∷ xs) (suc i) d e h = same_default xs i d e (omega arith)

-- the entry behind the last bus
pub all_at : (widths firsts : List ℕ) (count wires : ℕ) → AreFirstWires widths firsts → count ≡ length widths → wires ≡ get_or firsts count wires → wires ≡ sum widths
all_at widths firsts count wires are all is = first_at widths firsts count wires are (omega arith) is ∙ ap sum (take_all count widths (omega arith))
