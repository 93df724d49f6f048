-- The value that was written last is that of the row.
use Rattle.std.proofs.Common.{◌≡◌, ℕ, zero, suc, ◌+◌, ◌<◌, Bool, true, false, not, Option, None, Some, List, [], ◌∷◌, ◌++◌, cond, nat_eq, refl, sym, ap, ◌∙◌, arith, inl, inr, slice_get}
use Rattle.std.proofs.lemmas.Bool.{cases_Bool, eqb-true, eq-eqb}
use Rattle.cycle_texts.specs.Rows.{CycleRow}
use Rattle.tester_forms.specs.Dumps.{Change, changes, has_changed, value_of}
use Rattle.tester_forms.specs.Shown.{later, last_written, changes_before}
use Rattle.tester_forms.specs.Variables.{Source}
use Rattle.common_lemmas.proofs.Tests.{same_number}

later_later : (a b c : Option ℕ) → later (later a b) c ≡ later a (later b c)
later_later None b c = refl
later_later (Some v) b c = refl

last-append : (k : ℕ) (xs ys : List Change) → last_written k (xs ++ ys) ≡ later (last_written k ys) (last_written k xs)
last-append k [] ys = sym (none (last_written k ys))
  where
    none : (o : Option ℕ) → later o None ≡ o
    none None = refl
    none (Some v) = refl
last-append k (x ∷ xs) ys =
    ap (λ o. later o (cond (nat_eq x.number k) (Some x.value) None)) (last-append k xs ys)
    ∙ later_later (last_written k ys) (last_written k xs) (cond (nat_eq x.number k) (Some x.value) None)

other_number : (n k : ℕ) → (n ≡ k → ⊥) → nat_eq n k ≡ false
other_number n k differ =
    elim (cases_Bool (nat_eq n k)) [
      | inl yes' ↦ absurd (differ (eqb-true n k yes'))
      | inr no' ↦ no'
    ]

-- one that may be written
one_if : (p : Bool) → (n value : ℕ) → List Change
one_if p n value = cond p (record { number = n; value = value } ∷ []) []

last_one : (p : Bool) (n value : ℕ) → last_written n (cond p (record { number = n; value = value } ∷ []) []) ≡ cond p (Some value) None
last_one true n value = ap (λ b. cond b (Some value) None) (same_number n)
last_one false n value = refl

last_other : (p : Bool) (n k value : ℕ) → (n ≡ k → ⊥) → last_written k (cond p (record { number = n; value = value } ∷ []) []) ≡ None
last_other true n k value differ = ap (λ b. cond {A = Option ℕ} b (Some value) None) (other_number n k differ)
last_other false n k value differ = refl

none_before : (p : Source → Bool) (row : CycleRow) (n k : ℕ) (ss : List Source) → k < n → last_written k (changes p row n ss) ≡ None
none_before p row n k [] less = refl
none_before p row n k (s ∷ ss) less =
    last-append k (cond (p s) (record { number = n; value = value_of row s } ∷ []) []) (changes p row (n + 1) ss)
    ∙ ap (λ o. later o (last_written k (cond (p s) (record { number = n; value = value_of row s } ∷ []) []))) (none_before p row (n + 1) k ss (omega (arith, less)))
    ∙ last_other (p s) n k (value_of row s) (λ e. omega (arith, less, e))

last_of : (p : Source → Bool) (row : CycleRow) (n i k : ℕ) (ss : List Source) (s : Source) → k ≡ n + i → slice_get ss i ≡ Some s → last_written k (changes p row n ss) ≡ cond (p s) (Some (value_of row s)) None
last_of p row n i k [] s is at = cc
last_of p row n zero k (t ∷ ss) s is at =
    let same : t ≡ s = cc in
    let number : k ≡ n = omega (arith, is) in
    let first : last_written k (changes p row n (t ∷ ss)) ≡ cond (p t) (Some (value_of row t)) None =
    last-append k (cond (p t) (record { number = n; value = value_of row t } ∷ []) []) (changes p row (n + 1) ss)
    ∙ ap (λ o. later o (last_written k (cond (p t) (record { number = n; value = value_of row t } ∷ []) []))) (none_before p row (n + 1) k ss (omega (arith, number)))
    ∙ ap (λ j. last_written j (cond (p t) (record { number = n; value = value_of row t } ∷ []) [])) number
    ∙ last_one (p t) n (value_of row t) in
    first ∙ ap (λ (x : Source). cond (p x) (Some (value_of row x)) None) same
last_of p row n (suc i) k (t ∷ ss) s is at =
    last-append k (cond (p t) (record { number = n; value = value_of row t } ∷ []) []) (changes p row (n + 1) ss)
    ∙ ap (λ o. later (last_written k (changes p row (n + 1) ss)) o) (last_other (p t) n k (value_of row t) (λ e. omega (arith, is, e)))
    ∙ none (last_written k (changes p row (n + 1) ss))
    ∙ last_of p row (n + 1) i k ss s (omega (arith, is)) at
  where
    none : (o : Option ℕ) → later o None ≡ o
    none None = refl
    none (Some v) = refl

unchanged : (a b : ℕ) → later (cond (not (nat_eq a b)) (Some b) None) (Some a) ≡ Some b
unchanged a b =
    elim (cases_Bool (nat_eq a b)) [
      | inl yes' ↦ rw yes' (ap (λ v. Some v) (eqb-true a b yes'))
      | inr no' ↦ rw no' refl
    ]

pub last_is : (rows : ℕ → CycleRow) (sources : List Source) (c k : ℕ) (s : Source) → slice_get sources k ≡ Some s → last_written k (changes_before rows sources (suc c)) ≡ Some (value_of (rows c) s)
last_is rows sources zero k s at = last_of (λ s. true) (rows 0) 0 k k sources s (omega arith) at
last_is rows sources (suc c) k s at =
    last-append k (changes_before rows sources (suc c)) (changes (has_changed (rows c) (rows (suc c))) (rows (suc c)) 0 sources)
    ∙ ap (λ o. later o (last_written k (changes_before rows sources (suc c)))) (last_of (has_changed (rows c) (rows (suc c))) (rows (suc c)) 0 k k sources s (omega arith) at)
    ∙ ap (λ o. later (cond (has_changed (rows c) (rows (suc c)) s) (Some (value_of (rows (suc c)) s)) None) o) (last_is rows sources c k s at)
    ∙ unchanged (value_of (rows c) s) (value_of (rows (suc c)) s)
