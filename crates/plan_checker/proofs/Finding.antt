-- What the look-ups in a chip find.
use Rattle.std.proofs.Common.{◌≡◌, ℕ, zero, suc, ◌+◌, ◌≤◌, ◌<◌, Bool, true, false, eqb, Option, Some, None, List, [], ◌∷◌, length, map, refl, ◌∙◌, sym, arith, inl, inr, eq-eqb, true≢false, slice_get, IfSome, IfNone, position}
use Rattle.std.specs.List.{position_or_len}
use Rattle.std.proofs.lemmas.Bool.{cases_Bool, cases_lt, eqb-true, lt-ltb, le-ltb}
use Rattle.std.proofs.lemmas.Option.{slice_get-map}
use Rattle.soc_model.specs.Chips.{ModuleValue}

pub some_same : {X : Type 0} {x y : X} → Some x ≡ Some y → x ≡ y
some_same e = cc

-- ---- the first that passes

or_len_passes : {X : Type 0} (p : X → Bool) (xs : List X) → position_or_len p xs < length xs → (x : X) × (slice_get xs (position_or_len p xs) ≡ Some x) × (p x ≡ true)
or_len_passes p [] h = absurd (omega arith)
or_len_passes p (x ∷ xs) h = elim (cases_Bool (p x)) [
  | inl yes' ↦ rw yes' (x, refl, yes')
  | inr no' ↦
      let e : 1 + position_or_len p xs ≡ suc (position_or_len p xs) = omega arith in
      let h' = rw (no', e) at h in
      rw (no', e) (or_len_passes p xs (omega arith))
]

or_len_none : {X : Type 0} (p : X → Bool) (xs : List X) → length xs ≤ position_or_len p xs → (i : ℕ) (x : X) → slice_get xs i ≡ Some x → p x ≡ false
or_len_none p [] h i x at = absurd cc
or_len_none p (y ∷ xs) h i x at = elim (cases_Bool (p y)) [
  | inl yes' ↦ let h' = rw yes' at h in absurd (omega arith)
  | inr no' ↦
      let e : 1 + position_or_len p xs ≡ suc (position_or_len p xs) = omega arith in
      let h' = rw (no', e) at h in
      go i at no' (λ j at'. or_len_none p xs (omega arith) j x at')
]
  where
    go : (i : ℕ) → slice_get (y ∷ xs) i ≡ Some x → p y ≡ false → ((j : ℕ) → slice_get xs j ≡ Some x → p x ≡ false) → p x ≡ false
    go zero at no' later = let same : y ≡ x = cc in rw (← same) no'
    go (suc i) at no' later = later i at

pub position_finds : {X : Type 0} (p : X → Bool) (xs : List X) (r : Option ℕ) → r ≡ position p xs → IfSome r (λ i. (x : X) × (slice_get xs i ≡ Some x) × (p x ≡ true))
position_finds p xs None e = tt
position_finds p xs (Some i) e = elim (cases_lt (position_or_len p xs) (length xs)) [
  | inl less ↦
      let e' = rw (lt-ltb (position_or_len p xs) (length xs) less) at e in
      let same : i ≡ position_or_len p xs = cc in
      rw same (or_len_passes p xs less)
  | inr more ↦ let e' = rw (le-ltb (position_or_len p xs) (length xs) more) at e in absurd cc
]

pub position_fails : {X : Type 0} (p : X → Bool) (xs : List X) (r : Option ℕ) → r ≡ position p xs → IfNone r ((i : ℕ) (x : X) → slice_get xs i ≡ Some x → p x ≡ false)
position_fails p xs (Some i) e = tt
position_fails p xs None e = elim (cases_lt (position_or_len p xs) (length xs)) [
  | inl less ↦ let e' = rw (lt-ltb (position_or_len p xs) (length xs) less) at e in absurd cc
  | inr more ↦ or_len_none p xs more
]

-- the number of the module at a place
pub number_at : (ms : List ModuleValue) (p : ℕ) (m : ModuleValue) → slice_get ms p ≡ Some m → slice_get (map (λ (m : ModuleValue). m.number) ms) p ≡ Some m.number
number_at ms p m at = slice_get-map (λ (m : ModuleValue). m.number) ms p ∙ rw at refl

-- ---- modules by their numbers

pub place_found : (numbers ks : List ℕ) (number : ℕ) (r : Option ℕ) → r ≡ position (eqb number) ks → ks ≡ numbers → IfSome r (λ p. slice_get numbers p ≡ Some number)
place_found numbers ks number None e same = tt
place_found numbers ks number (Some p) e same =
    let f = position_finds (eqb number) ks (Some p) e in
    let is : number ≡ f.0 = eqb-true number f.0 f.2 in
    rw (← same, is) f.1

pub place_missing : (numbers ks : List ℕ) (number : ℕ) (r : Option ℕ) → r ≡ position (eqb number) ks → ks ≡ numbers → IfNone r ((p x : ℕ) → slice_get numbers p ≡ Some x → x ≡ number → ⊥)
place_missing numbers ks number (Some p) e same = tt
place_missing numbers ks number None e same = λ p x at one.
    let f = position_fails (eqb number) ks None e p x (rw same at) in
    absurd (true≢false (sym (eq-eqb number x (sym one)) ∙ f))
