-- The first item of a list that breaks a rule.
use Rattle.std.proofs.Common.{get_or, ◌≡◌, ℕ, ◌+◌, ◌≤◌, ◌<◌, Some, None, List, length, take, arith, inl, inr, sym, ap, ◌∙◌, Option, slice_get}
use Rattle.std.proofs.lemmas.Bool.{cases_lt}
use Rattle.std.proofs.lemmas.Option.{slice_get_within, slice_get-get_or, get_or_from_slice_get}
use Rattle.std.proofs.lemmas.List.{length-take, get_or-take, take-take}
use Rattle.plan_model.specs.Rules.{Each}
use Rattle.bound_certificate.specs.Best.{up_to}
use Rattle.bound_certificate.specs.Breaches.{IsBreachPlace}

-- the items before `i` keep the rule
pub KeptBelow : {X : Type 0} → (List X → X → Type 0) → List X → ℕ → Type 0
KeptBelow {X} P xs i = (n : ℕ) (x : X) → n < i → slice_get xs n ≡ Some x → P (take n xs) x

pub none_kept : {X : Type 0} (P : List X → X → Type 0) (xs : List X) → KeptBelow P xs 0
unfolding KeptBelow
none_kept P xs n x less at = absurd (omega arith)

pub next_kept : {X : Type 0} (P : List X → X → Type 0) (xs : List X) (i : ℕ) (x : X) → KeptBelow P xs i → slice_get xs i ≡ Some x → P (take i xs) x → KeptBelow P xs (i + 1)
unfolding KeptBelow
next_kept P xs i x kept at here n y less at' = elim (cases_lt n i) [
  | inl before ↦ kept n y before at'
  | inr this ↦
      let same : i ≡ n = omega arith in
      let at'' = rw same at at in
      let item : x ≡ y = cc in
      rw (← same, ← item) here
]

pub break_here : {X : Type 0} (P : List X → X → Type 0) (xs : List X) (i : ℕ) (x : X) → KeptBelow P xs i → slice_get xs i ≡ Some x → (P (take i xs) x → ⊥) → IsBreachPlace P xs (Some i)
unfolding KeptBelow
break_here P xs i x kept at broken = (x, record { there = at; breaks = broken; earlier = λ n y less at'. kept n y less at' })

pub no_break : {X : Type 0} (P : List X → X → Type 0) (xs : List X) (i : ℕ) → KeptBelow P xs i → length xs ≤ i → IsBreachPlace P xs None
unfolding KeptBelow
no_break P xs i kept all n x at = kept n x (omega (arith, slice_get_within xs n x at)) at

-- what stands before the first break keeps the rule
pub up_to-keeps : {X : Type 0} (P : List X → X → Type 0) (xs : List X) (o : Option ℕ) → IsBreachPlace P xs o → Each P (up_to o xs)
up_to-keeps P xs None keeps m x at = keeps m x at
up_to-keeps P xs (Some n) broken m x at =
    let within : m < length (take n xs) = slice_get_within (take n xs) m x at in
    let less : m < n = omega (arith, length-take n xs) in
    let item : get_or xs m x ≡ x = sym (get_or-take n xs m x less) ∙ get_or_from_slice_get (take n xs) m x x at in
    let there : slice_get xs m ≡ Some x = slice_get-get_or xs m x (omega (arith, length-take n xs)) ∙ ap Some item in
    rw (take-take m n xs (omega arith)) (broken.1.earlier m x less there)
