-- The first item of a list that breaks a rule which doesn't look at the items before it.
use Rattle.std.specs.Prelude.{◌≡◌, ℕ, Some, List, ◌∷◌, ◌++◌, slice_get, map}
use Rattle.std.specs.List.{Contains}

-- each item keeps the rule
abbrev pub EachOf : {X : Type 0} → (X → Type 0) → List X → Type 0
EachOf {X} Q xs = (n : ℕ) (x : X) → slice_get xs n ≡ Some x → Q x

-- `x` breaks the rule, and what stands before it keeps it
pub record Breaks {X : Type 0} (Q : X → Type 0) (xs : List X) (x : X) : Type 0 where
  pub before : List X
  pub behind : List X
  pub is : xs ≡ before ++ (x ∷ behind)
  pub kept : EachOf Q before
  pub broken : Q x → ⊥

-- one of the pairs has this key
abbrev pub IsKey : {K V : Type 0} → List (K × V) → K → Type 0
IsKey {K} {V} entries key = Contains (map (λ (e : K × V). e.0) entries) key
