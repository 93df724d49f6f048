-- The first item of a list that breaks a rule, an item at a time.
use Rattle.std.proofs.Common.{◌≡◌, ℕ, ◌+◌, ◌≤◌, ◌<◌, Some, List, length, take, subst, arith, inl, inr}
use Rattle.std.specs.Prelude.{slice_get}
use Rattle.std.proofs.lemmas.Bool.{cases_eq}
use Rattle.std.proofs.lemmas.Option.{slice_get_within}
use Rattle.plan_model.specs.Rules.{IsFirstBreach, Each}

-- the rule is kept by the first `n` items
abbrev pub EachTo : {X : Type 0} → (List X → X → Type 0) → List X → ℕ → Type 0
EachTo {X} P xs n = (m : ℕ) (x : X) → m < n → slice_get xs m ≡ Some x → P (take m xs) x

pub each_none : {X : Type 0} (P : List X → X → Type 0) (xs : List X) → EachTo P xs 0
each_none P xs m x h at = absurd (omega arith)

pub each_more : {X : Type 0} (P : List X → X → Type 0) (xs : List X) (n : ℕ) (x : X) → EachTo P xs n → slice_get xs n ≡ Some x → P (take n xs) x → EachTo P xs (n + 1)
each_more P xs n x h at here m y less at' = elim (cases_eq m n) [
  | inl same ↦
      let there : slice_get xs m ≡ Some x = rw same at in
      let one : x ≡ y = cc in
      rw same (subst (P (take n xs)) one here)
  | inr other ↦ h m y (omega (arith, other)) at'
]

pub each_all : {X : Type 0} (P : List X → X → Type 0) (xs : List X) (n : ℕ) → length xs ≤ n → EachTo P xs n → Each P xs
each_all P xs n all h m x at = h m x (omega (arith, slice_get_within xs m x at)) at

pub first_here : {X : Type 0} (P : List X → X → Type 0) (xs : List X) (n : ℕ) (x : X) → EachTo P xs n → slice_get xs n ≡ Some x → (P (take n xs) x → ⊥) → IsFirstBreach P xs n x
first_here P xs n x h at broken = record { there = at; breaks = broken; earlier = h }
