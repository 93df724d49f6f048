-- What is decided: it holds, or it doesn't. So there is a least number or a first item with a property, or none.
use Rattle.std.proofs.Common.{◌≡◌, ◌⊎◌, inl, inr, ℕ, zero, suc, ◌<◌, ◌≤◌, Bool, true, false, Option, None, Some, List, [], ◌∷◌, length, take, refl, ap, ◌∙◌, subst, arith}
use Rattle.std.specs.Prelude.{slice_get, IsTrue}
use Rattle.std.specs.List.{Contains}
use Rattle.std.proofs.lemmas.Bool.{cases_Bool, cases_lt, cases_eq}
use Rattle.std.proofs.lemmas.Option.{slice_get_within, same_Some}
use Rattle.soc_model.specs.declared.TestId.{TestId}
use Rattle.soc_model.specs.Chips.{same_test}
use Rattle.plan_model.specs.Rules.{Each, IsFirstBreach, IsNew}
use Rattle.plan_model.proofs.CertificatesAreBounds.{same_test_is, is_same_test}
use Rattle.plan_model.proofs.Lists.{at_contains}
use Rattle.common_lemmas.proofs.Lists.{contains_at}

abbrev pub Decided : Type 0 → Type 0
Decided P = P ⊎ (P → ⊥)

-- ---- from parts

pub both_decided : {P Q : Type 0} → Decided P → Decided Q → Decided (P × Q)
both_decided (inl p) (inl q) = inl (p, q)
both_decided (inl p) (inr no') = inr (λ h. no' h.1)
both_decided (inr no') q = inr (λ h. no' h.0)

pub implied_decided : {P Q : Type 0} → Decided P → Decided Q → Decided (P → Q)
implied_decided (inl p) (inl q) = inl (λ h. q)
implied_decided (inl p) (inr no') = inr (λ h. no' (h p))
implied_decided (inr no') q = inl (λ p. absurd (no' p))

pub not_decided : {P : Type 0} → Decided P → Decided (P → ⊥)
not_decided (inl p) = inr (λ h. h p)
not_decided (inr no') = inl no'

-- what is decided stays so, said otherwise
pub decided_as : {P Q : Type 0} → (P → Q) → (Q → P) → Decided P → Decided Q
decided_as to from (inl p) = inl (to p)
decided_as to from (inr no') = inr (λ q. no' (from q))

-- what isn't refuted holds
pub not_refuted : {P : Type 0} → Decided P → ((P → ⊥) → ⊥) → P
not_refuted (inl p) h = p
not_refuted (inr no') h = absurd (h no')

-- ---- numbers, names and answers

pub le_decided : (a b : ℕ) → Decided (a ≤ b)
le_decided a b = elim (cases_lt b a) [ inl less ↦ inr (λ le. omega arith) | inr le ↦ inl le ]

pub lt_decided : (a b : ℕ) → Decided (a < b)
lt_decided a b = elim (cases_lt a b) [ inl less ↦ inl less | inr le ↦ inr (λ less. omega arith) ]

pub true_decided : (b : Bool) → Decided (IsTrue b)
true_decided true = inl refl
true_decided false = inr (λ h. cc)

same_answer : (a b : Bool) → Decided (a ≡ b)
same_answer true true = inl refl
same_answer true false = inr (λ e. cc)
same_answer false true = inr (λ e. cc)
same_answer false false = inl refl

both_same : {X Y : Type 0} (a b : X × Y) → a.0 ≡ b.0 → a.1 ≡ b.1 → a ≡ b
both_same a b e f = ap (λ v. (v, a.1)) e ∙ ap (λ v. (b.0, v)) f

pub same_pair : (a b : ℕ × Bool) → Decided (a ≡ b)
same_pair a b = elim (cases_eq a.0 b.0) [
  | inr other ↦ inr (λ e. other (ap (λ (p : ℕ × Bool). p.0) e))
  | inl same ↦ elim (same_answer a.1 b.1) [
    | inr other ↦ inr (λ e. other (ap (λ (p : ℕ × Bool). p.1) e))
    | inl also ↦ inl (both_same a b same also)
  ]
]

pub same_name : (a b : TestId) → Decided (a ≡ b)
same_name a b = elim (cases_Bool (same_test a b)) [
  | inl same ↦ inl (same_test_is a b same)
  | inr other ↦ inr (λ e. let here : same_test a a ≡ true = is_same_test a in let there : same_test a b ≡ true = subst (λ v. same_test a v ≡ true) e here in cc)
]

pub same_names : (a b : TestId × TestId) → Decided (a ≡ b)
same_names a b = elim (same_name a.0 b.0) [
  | inr other ↦ inr (λ e. other (ap (λ (p : TestId × TestId). p.0) e))
  | inl same ↦ elim (same_name a.1 b.1) [
    | inr other ↦ inr (λ e. other (ap (λ (p : TestId × TestId). p.1) e))
    | inl also ↦ inl (both_same a b same also)
  ]
]

-- ---- items of lists

-- a property of all items of a list
pub all_items : {X : Type 0} (P : X → Type 0) → ((x : X) → Decided (P x)) → (xs : List X) → Decided ((n : ℕ) (x : X) → slice_get xs n ≡ Some x → P x)
all_items P decide [] = inl (λ n x at. absurd cc)
all_items {X} P decide (y ∷ xs) = elim (decide y) [
  | inr none ↦ inr (λ all. none (all 0 y refl))
  | inl here ↦ elim (all_items P decide xs) [
    | inr none ↦ inr (λ all. none (λ n x at. all (suc n) x at))
    | inl rest ↦ inl (both here rest)
  ]
]
  where
    both : P y → ((n : ℕ) (x : X) → slice_get xs n ≡ Some x → P x) → (n : ℕ) (x : X) → slice_get (y ∷ xs) n ≡ Some x → P x
    both here rest zero x at = let same : y ≡ x = cc in subst P same here
    both here rest (suc n) x at = rest n x at

place_decided : {X : Type 0} → ((a b : X) → Decided (a ≡ b)) → (xs : List X) (x : X) → Decided ((n : ℕ) × (slice_get xs n ≡ Some x))
place_decided same [] x = inr (λ h. let at = h.1 in cc)
place_decided {X} same (y ∷ ys) x = elim (same y x) [
  | inl here ↦ inl (0, ap Some here)
  | inr other ↦ elim (place_decided same ys x) [
    | inl later ↦ inl (suc later.0, later.1)
    | inr none ↦ inr (λ h. nowhere other none h.0 h.1)
  ]
]
  where
    nowhere : (y ≡ x → ⊥) → ((n : ℕ) × (slice_get ys n ≡ Some x) → ⊥) → (n : ℕ) → slice_get (y ∷ ys) n ≡ Some x → ⊥
    nowhere other none zero at = other (same_Some y x at)
    nowhere other none (suc n) at = none (n, at)

-- whether an item stands in a list, where any two are the same or not
pub stands_decided : {X : Type 0} → ((a b : X) → Decided (a ≡ b)) → (xs : List X) (x : X) → Decided (Contains xs x)
stands_decided same xs x = decided_as (λ h. at_contains xs h.0 x h.1) (λ there. contains_at xs x there) (place_decided same xs x)

pub new_decided : {X : Type 0} → ((a b : X) → Decided (a ≡ b)) → (xs : List X) (x : X) → Decided (IsNew xs x)
new_decided same xs x = not_decided (stands_decided same xs x)

-- ---- the least number, and the first item that breaks its rule

-- a property of all numbers below one
pub all_below : (P : ℕ → Type 0) → ((k : ℕ) → Decided (P k)) → (n : ℕ) → Decided ((k : ℕ) → k < n → P k)
all_below P decide zero = inl (λ k less. absurd (omega arith))
all_below P decide (suc n) = elim (all_below P decide n) [
  | inr none ↦ inr (λ all. none (λ k less. all k (omega arith)))
  | inl front ↦ elim (decide n) [
    | inr none ↦ inr (λ all. none (all n (omega arith)))
    | inl here ↦ inl (λ k less. elim (cases_lt k n) [
      | inl old ↦ front k old
      | inr new ↦ subst P (let same : n ≡ k = omega arith in same) here
    ])
  ]
]

-- the least number with a property
pub record Least (P : ℕ → Type 0) : Type 0 where
  pub n : ℕ
  pub is : P n
  pub least : (k : ℕ) → P k → n ≤ k

pub least_below : (P : ℕ → Type 0) → ((k : ℕ) → Decided (P k)) → (n : ℕ) → Least P ⊎ ((k : ℕ) → k < n → P k → ⊥)
least_below P decide zero = inr (λ k less p. omega arith)
least_below P decide (suc n) = elim (least_below P decide n) [
  | inl found ↦ inl found
  | inr none ↦ elim (decide n) [
    | inl here ↦ inl (record { n = n; is = here; least = λ k p. elim (cases_lt k n) [ inl less ↦ absurd (none k less p) | inr le ↦ le ] })
    | inr not ↦ inr (λ k less p. elim (cases_lt k n) [
      | inl old ↦ none k old p
      | inr new ↦ not (subst P (let same : k ≡ n = omega arith in same) p)
    ])
  ]
]

pub least : (P : ℕ → Type 0) → ((k : ℕ) → Decided (P k)) → (n : ℕ) → P n → Least P
least P decide n here = elim (least_below P decide (suc n)) [
  | inl found ↦ found
  | inr none ↦ absurd (none n (omega arith) here)
]

-- the first item that breaks its rule
pub record Breach {X : Type 0} (P : List X → X → Type 0) (xs : List X) : Type 0 where
  pub n : ℕ
  pub x : X
  pub first : IsFirstBreach P xs n x

front_or_first : {X : Type 0} (P : List X → X → Type 0) → ((earlier : List X) (x : X) → Decided (P earlier x)) → (xs : List X) (n : ℕ) → ((m : ℕ) (y : X) → m < n → slice_get xs m ≡ Some y → P (take m xs) y) ⊎ Breach P xs
front_or_first P decide xs zero = inl (λ m y less at. absurd (omega arith))
front_or_first {X} P decide xs (suc n) = elim (front_or_first P decide xs n) [
  | inr found ↦ inr found
  | inl front ↦ go (slice_get xs n) refl front
]
  where
    next : ((m : ℕ) (y : X) → m < n → slice_get xs m ≡ Some y → P (take m xs) y) → ((y : X) → slice_get xs n ≡ Some y → P (take n xs) y) → (m : ℕ) (y : X) → m < suc n → slice_get xs m ≡ Some y → P (take m xs) y
    next front here m y less at = elim (cases_lt m n) [
      | inl old ↦ front m y old at
      | inr new ↦
          let same : n ≡ m = omega arith in
          subst (λ k. slice_get xs k ≡ Some y → P (take k xs) y) same (here y) at
    ]

    go : (o : Option X) → slice_get xs n ≡ o → ((m : ℕ) (y : X) → m < n → slice_get xs m ≡ Some y → P (take m xs) y) → ((m : ℕ) (y : X) → m < suc n → slice_get xs m ≡ Some y → P (take m xs) y) ⊎ Breach P xs
    go None past front = inl (next front (λ y at. absurd cc))
    go (Some x) there front = elim (decide (take n xs) x) [
      | inr no' ↦ inr (record { n = n; x = x; first = record { there = there; breaks = no'; earlier = front } })
      | inl yes' ↦ inl (next front (λ y at. subst (P (take n xs)) (let same : x ≡ y = cc in same) yes'))
    ]

-- each item keeps its rule, or there is a first that breaks it
pub each_or_first : {X : Type 0} (P : List X → X → Type 0) → ((earlier : List X) (x : X) → Decided (P earlier x)) → (xs : List X) → Each P xs ⊎ Breach P xs
each_or_first P decide xs = elim (front_or_first P decide xs (length xs)) [
  | inl all ↦ inl (λ n x at. all n x (slice_get_within xs n x at) at)
  | inr found ↦ inr found
]
