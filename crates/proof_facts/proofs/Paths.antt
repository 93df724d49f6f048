-- Paths of precedences, and the test that finds them.
use Rattle.std.proofs.Common.{◌≡◌, ℕ, zero, suc, ◌<◌, true, List, refl, arith, inl, inr, ◌⊎◌, eqb, nat_eq, ◌&&◌, All, Contains}
use Rattle.std.proofs.lemmas.Bool.{cases_lt, and_parts, and_from, or_cases, or_left, or_right, eqb-true, eq-eqb}
use Rattle.std.proofs.lemmas.List.Elements.{All-contains}
use Rattle.plan_model.proofs.Lists.{at_contains, any_from}
use Rattle.proof_facts.specs.Exclusions.{Leads, OnePair, PairFirst, has_pair, leads}
use Rattle.common_lemmas.proofs.Lists.{contains_at, any_at}

pub pair_found : (pairs : List (ℕ × ℕ)) (i j : ℕ) → Contains pairs (i, j) → has_pair pairs i j ≡ true
pair_found pairs i j c =
    let at = contains_at pairs (i, j) c in
    any_from (λ (e : ℕ × ℕ). nat_eq e.0 i && nat_eq e.1 j) pairs at.0 (i, j) at.1 (and_from (eqb i i) (eqb j j) (eq-eqb i i refl) (eq-eqb j j refl))

pub pair_there : (pairs : List (ℕ × ℕ)) (i j : ℕ) → has_pair pairs i j ≡ true → Contains pairs (i, j)
pair_there pairs i j h =
    let at = any_at (λ (e : ℕ × ℕ). nat_eq e.0 i && nat_eq e.1 j) pairs h in
    let both = and_parts (eqb (at.1).0 i) (eqb (at.1).1 j) at.3 in
    this_pair at.1 (eqb-true (at.1).0 i both.0) (eqb-true (at.1).1 j both.1) (at_contains pairs at.0 at.1 at.2)
  where
    this_pair : (e : ℕ × ℕ) → e.0 ≡ i → e.1 ≡ j → Contains pairs e → Contains pairs (i, j)
    this_pair e first second c = rw (← first, ← second) c

-- ---- what the test finds is a path

pub joined : (pairs : List (ℕ × ℕ)) (i k j : ℕ) → Leads pairs i k → Leads pairs k j → Leads pairs i j
joined pairs _ _ j (OnePair i k c) rest = PairFirst i k j c rest
joined pairs _ _ j (PairFirst i m k c first) rest = PairFirst i m j c (joined pairs m k j first rest)

pub path_from : (pairs : List (ℕ × ℕ)) (n i j : ℕ) → leads pairs n i j ≡ true → Leads pairs i j
unfolding leads
path_from pairs zero i j h = OnePair i j (pair_there pairs i j h)
path_from pairs (suc n) i j h = elim (or_cases (leads pairs n i j) (leads pairs n i n && leads pairs n n j) h) [
  | inl here ↦ path_from pairs n i j here
  | inr over ↦
      let both = and_parts (leads pairs n i n) (leads pairs n n j) over in
      joined pairs i n j (path_from pairs n i n both.0) (path_from pairs n n j both.1)
]

-- ---- and each path is found

over : (pairs : List (ℕ × ℕ)) (n i j : ℕ) → leads pairs n i n ≡ true → leads pairs n n j ≡ true → leads pairs (suc n) i j ≡ true
unfolding leads
over pairs n i j a b = or_right (leads pairs n i j) (leads pairs n i n && leads pairs n n j) (and_from (leads pairs n i n) (leads pairs n n j) a b)

kept : (pairs : List (ℕ × ℕ)) (n i j : ℕ) → leads pairs n i j ≡ true → leads pairs (suc n) i j ≡ true
unfolding leads
kept pairs n i j h = or_left (leads pairs n i j) (leads pairs n i n && leads pairs n n j) h

either : (pairs : List (ℕ × ℕ)) (n i j : ℕ) → leads pairs (suc n) i j ≡ true → (leads pairs n i j ≡ true) ⊎ ((leads pairs n i n ≡ true) × (leads pairs n n j ≡ true))
unfolding leads
either pairs n i j h = elim (or_cases (leads pairs n i j) (leads pairs n i n && leads pairs n n j) h) [
  | inl here ↦ inl here
  | inr far ↦ inr (and_parts (leads pairs n i n) (leads pairs n n j) far)
]

-- two paths that meet at a place below `n` are one
through : (pairs : List (ℕ × ℕ)) (n i k j : ℕ) → k < n → leads pairs n i k ≡ true → leads pairs n k j ≡ true → leads pairs n i j ≡ true
through pairs zero i k j less a b = absurd (omega arith)
through pairs (suc n) i k j less a b = elim (cases_lt k n) [
  | inl below ↦ inner below (either pairs n i k a) (either pairs n k j b) (λ x z h g. through pairs n x k z below h g)
  | inr last ↦
      let same : k ≡ n = omega arith in
      let a' : leads pairs (suc n) i n ≡ true = rw same at a in
      let b' : leads pairs (suc n) n j ≡ true = rw same at b in
      over pairs n i j (to_last (either pairs n i n a')) (from_last (either pairs n n j b'))
]
  where
    to_last : (leads pairs n i n ≡ true) ⊎ ((leads pairs n i n ≡ true) × (leads pairs n n n ≡ true)) → leads pairs n i n ≡ true
    to_last (inl h) = h
    to_last (inr h) = h.0

    from_last : (leads pairs n n j ≡ true) ⊎ ((leads pairs n n n ≡ true) × (leads pairs n n j ≡ true)) → leads pairs n n j ≡ true
    from_last (inl h) = h
    from_last (inr h) = h.1

    inner : k < n → (leads pairs n i k ≡ true) ⊎ ((leads pairs n i n ≡ true) × (leads pairs n n k ≡ true)) → (leads pairs n k j ≡ true) ⊎ ((leads pairs n k n ≡ true) × (leads pairs n n j ≡ true)) →
        ((x z : ℕ) → leads pairs n x k ≡ true → leads pairs n k z ≡ true → leads pairs n x z ≡ true) → leads pairs (suc n) i j ≡ true
    inner below (inl a) (inl b) meet = kept pairs n i j (meet i j a b)
    inner below (inr a) (inl b) meet = over pairs n i j a.0 (meet n j a.1 b)
    inner below (inl a) (inr b) meet = over pairs n i j (meet i n a b.0) b.1
    inner below (inr a) (inr b) meet = over pairs n i j a.0 b.1

pair_leads : (pairs : List (ℕ × ℕ)) (n i j : ℕ) → Contains pairs (i, j) → leads pairs n i j ≡ true
unfolding leads
pair_leads pairs zero i j c = pair_found pairs i j c
pair_leads pairs (suc n) i j c = kept pairs n i j (pair_leads pairs n i j c)

-- pairs of places below `n`
abbrev pub AreBelow : ℕ → List (ℕ × ℕ) → Type 0
AreBelow n pairs = All (λ (e : ℕ × ℕ). (e.0 < n) × (e.1 < n)) pairs

pub path_found : (pairs : List (ℕ × ℕ)) (n i j : ℕ) → AreBelow n pairs → Leads pairs i j → leads pairs n i j ≡ true
path_found pairs n _ _ below (OnePair i j c) = pair_leads pairs n i j c
path_found pairs n _ _ below (PairFirst i k j c rest) =
    let ends = All-contains (λ (e : ℕ × ℕ). (e.0 < n) × (e.1 < n)) pairs (i, k) below c in
    through pairs n i k j ends.1 (pair_leads pairs n i k c) (path_found pairs n k j below rest)
