-- The parent of a module, and its place.
use Rattle.std.proofs.Common.{◌≡◌, ℕ, zero, suc, ◌<◌, ◌≤◌, Bool, true, false, ltb, cond, List, Some, None, refl, sym, ap, subst, inl, inr, ◌∙◌, arith}
use Rattle.std.proofs.lemmas.Bool.{cases_lt}
use Rattle.std.proofs.lemmas.Bool.Decides.{nat_tests}
use Rattle.std.proofs.lemmas.Option.{same_Some}
use Rattle.soc_model.specs.Chips.{ModuleValue, IsParent, level_at, parent_place, smaller_below}

-- the place below `n` that is the nearest of a smaller level
abbrev IsNearest : List ModuleValue → (level n p : ℕ) → Type 0
IsNearest modules level n p = (p < n) × (level_at modules p < level) × ((q : ℕ) → p < q → q < n → level ≤ level_at modules q)

abbrev AreGreater : List ModuleValue → (level n : ℕ) → Type 0
AreGreater modules level n = (q : ℕ) → q < n → level ≤ level_at modules q

nearest-more : (modules : List ModuleValue) (level n p : ℕ) (b : Bool) → ltb (level_at modules n) level ≡ b → (smaller_below modules level n ≡ Some p → IsNearest modules level n p) → cond b (Some n) (smaller_below modules level n) ≡ Some p → IsNearest modules level (suc n) p
nearest-more modules level n p true here ih e =
    let same : n ≡ p = same_Some n p e in
    let lt : level_at modules n < level = grind (arith, nat_tests) in
    (omega arith, subst (λ k. level_at modules k < level) same lt, λ q after before. absurd (omega arith))
nearest-more modules level n p false here ih e =
    let h = ih e in
    let ge : level ≤ level_at modules n = grind (arith, nat_tests) in (
      omega arith,
      h.1,
      λ q after before. elim (cases_lt q n) [
        | inl lt ↦ h.2 q after lt
        | inr le ↦ let same : n ≡ q = omega arith in subst (λ k. level ≤ level_at modules k) same ge
      ],
    )

nearest-from : (modules : List ModuleValue) (level n p : ℕ) → smaller_below modules level n ≡ Some p → IsNearest modules level n p
nearest-from modules level zero p e = cc
nearest-from modules level (suc n) p e = nearest-more modules level n p _ refl (nearest-from modules level n p) e

greater-more : (modules : List ModuleValue) (level n : ℕ) (b : Bool) → ltb (level_at modules n) level ≡ b → (smaller_below modules level n ≡ None → AreGreater modules level n) → cond b (Some n) (smaller_below modules level n) ≡ None → AreGreater modules level (suc n)
greater-more modules level n true here ih e = cc
greater-more modules level n false here ih e =
    let ge : level ≤ level_at modules n = grind (arith, nat_tests) in
    λ q before. elim (cases_lt q n) [
      | inl lt ↦ ih e q lt
      | inr le ↦ let same : n ≡ q = omega arith in subst (λ k. level ≤ level_at modules k) same ge
    ]

greater-from : (modules : List ModuleValue) (level n : ℕ) → smaller_below modules level n ≡ None → AreGreater modules level n
greater-from modules level zero e = λ q lt. absurd (omega arith)
greater-from modules level (suc n) e = greater-more modules level n _ refl (greater-from modules level n) e

below-more : (modules : List ModuleValue) (level n p : ℕ) (b : Bool) → ltb (level_at modules n) level ≡ b → (IsNearest modules level n p → smaller_below modules level n ≡ Some p) → IsNearest modules level (suc n) p → cond b (Some n) (smaller_below modules level n) ≡ Some p
below-more modules level n p true here ih h =
    let lt : level_at modules n < level = grind (arith, nat_tests) in
    let same : n ≡ p = elim (cases_lt p n) [
      | inl before ↦ absurd (omega (arith, h.2 n before (omega arith)))
      | inr le ↦ omega (arith, h.0)
    ] in
    ap Some same
below-more modules level n p false here ih h =
    let ge : level ≤ level_at modules n = grind (arith, nat_tests) in
    let before : p < n = elim (cases_lt p n) [
      | inl lt ↦ lt
      | inr le ↦ let same : n ≡ p = omega (arith, h.0) in let k = subst (λ k. level ≤ level_at modules k) same ge in absurd (omega (arith, h.1))
    ] in
    ih (before, h.1, λ q after lt. h.2 q after (omega arith))

below-from : (modules : List ModuleValue) (level n p : ℕ) → IsNearest modules level n p → smaller_below modules level n ≡ Some p
below-from modules level zero p h = absurd (omega (arith, h.0))
below-from modules level (suc n) p h = below-more modules level n p _ refl (below-from modules level n p) h

-- the place that is found is the parent's
pub IsParent-from_place : (modules : List ModuleValue) (p place : ℕ) → parent_place modules place ≡ Some p → IsParent modules p place
IsParent-from_place modules p place e =
    let h = nearest-from modules (level_at modules place) place p e in
    record { earlier = h.0; smaller = h.1; nearest = h.2 }

-- where none is found, no earlier level is smaller
pub levels-from_none : (modules : List ModuleValue) (place : ℕ) → parent_place modules place ≡ None → (q : ℕ) → q < place → level_at modules place ≤ level_at modules q
levels-from_none modules place e = greater-from modules (level_at modules place) place e

-- the parent is found
pub place-from_IsParent : (modules : List ModuleValue) (p place : ℕ) → IsParent modules p place → parent_place modules place ≡ Some p
place-from_IsParent modules p place h = below-from modules (level_at modules place) place p (h.earlier, h.smaller, h.nearest)
