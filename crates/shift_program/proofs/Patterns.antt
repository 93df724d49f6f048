-- How often entries capture each pattern, and where they capture each once.
use Rattle.std.proofs.Common.{◌≡◌, ◌⊎◌, inl, inr, ℕ, zero, suc, ◌+◌, ◌≤◌, ◌<◌, Bool, true, false, cond, Some, List, [], ◌∷◌, length, nat_eq, refl, ap, arith, slice_get}
use Rattle.std.proofs.lemmas.Bool.{cases_lt, eqb-true, eqb-false, eq-eqb, ne_eqb}
use Rattle.shift_program.specs.declared.Entry.{Entry}
use Rattle.shift_program.specs.Faults.{captured}
use Rattle.shift_program.specs.declared.Entry.TheVariants as entry

-- how often a pattern stands in a list
abbrev pub hits : ℕ → List ℕ → ℕ
hits k [] = 0
hits k (x ∷ xs) = cond (nat_eq x k) 1 0 + hits k xs

-- how often the patterns from 1 to `p` stand there together
abbrev pub hits_up_to : ℕ → List ℕ → ℕ
hits_up_to zero xs = 0
hits_up_to (suc p) xs = hits_up_to p xs + hits (suc p) xs

-- ---- one number more

hits_same : (k : ℕ) (xs : List ℕ) → hits k (k ∷ xs) ≡ suc (hits k xs)
hits_same k xs = let e : nat_eq k k ≡ true = eq-eqb k k refl in rw e (omega arith)

hits_other : (x k : ℕ) (xs : List ℕ) → (x ≡ k → ⊥) → hits k (x ∷ xs) ≡ hits k xs
hits_other x k xs no' = let e = ne_eqb x k no' in rw e (omega arith)

-- a number past the patterns doesn't count
past_up_to : (p x : ℕ) (xs : List ℕ) → p < x → hits_up_to p (x ∷ xs) ≡ hits_up_to p xs
past_up_to zero x xs past = refl
past_up_to (suc p) x xs past =
    let ih = past_up_to p x xs (omega arith) in
    let other = hits_other x (suc p) xs (λ e. absurd (omega arith)) in
    omega arith

-- one of the patterns counts once
more_up_to : (p x : ℕ) (xs : List ℕ) → 1 ≤ x → x ≤ p → hits_up_to p (x ∷ xs) ≡ suc (hits_up_to p xs)
more_up_to zero x xs first last = absurd (omega arith)
more_up_to (suc p) x xs first last = by (cases_lt p x) (λ less. more_up_to p x xs first less)
  where
    by : (p < x) ⊎ (x ≤ p) → (x ≤ p → hits_up_to p (x ∷ xs) ≡ suc (hits_up_to p xs)) → hits_up_to (suc p) (x ∷ xs) ≡ suc (hits_up_to (suc p) xs)
    by (inl past) later =
        let same : x ≡ suc p = omega arith in
        let here : hits (suc p) (x ∷ xs) ≡ suc (hits (suc p) xs) = rw same (hits_same (suc p) xs) in
        omega (arith, past_up_to p x xs past)
    by (inr less) later = omega (arith, later less, hits_other x (suc p) xs (λ e. absurd (omega arith)))

module _ (p : ℕ) where
  at_most_more : (x : ℕ) (xs : List ℕ) → hits_up_to p (x ∷ xs) ≤ suc (hits_up_to p xs)
  at_most_more zero xs = let none = none_up_to p xs in omega arith
    where
      none_up_to : (p : ℕ) (xs : List ℕ) → hits_up_to p (0 ∷ xs) ≡ hits_up_to p xs
      none_up_to zero xs = refl
      none_up_to (suc p) xs = omega (arith, none_up_to p xs, hits_other 0 (suc p) xs (λ e. absurd (omega arith)))
  at_most_more (suc x) xs = by (cases_lt p (suc x))
    where
      by : (p < suc x) ⊎ (suc x ≤ p) → hits_up_to p (suc x ∷ xs) ≤ suc (hits_up_to p xs)
      by (inl past) = omega (arith, past_up_to p (suc x) xs past)
      by (inr less) = omega (arith, more_up_to p (suc x) xs (omega arith) less)

  -- no more hits than numbers
  pub up_to-le-length : (xs : List ℕ) → hits_up_to p xs ≤ length xs
  up_to-le-length [] = omega (arith, none p)
    where
      none : (p : ℕ) → hits_up_to p [] ≡ 0
      none zero = refl
      none (suc p) = omega (arith, none p)
  up_to-le-length (x ∷ xs) = omega (arith, at_most_more x xs, up_to-le-length xs)

-- each pattern stands there
pub each_up_to : (p : ℕ) (xs : List ℕ) → ((k : ℕ) → 1 ≤ k → k ≤ p → 1 ≤ hits k xs) → p ≤ hits_up_to p xs
each_up_to zero xs each = omega arith
each_up_to (suc p) xs each =
    let ih = each_up_to p xs (λ k first last. each k first (omega arith)) in
    omega (arith, each (suc p) (omega arith) (omega arith))

-- none stands there twice
up_to-le : (p : ℕ) (xs : List ℕ) → ((k : ℕ) → hits k xs ≤ 1) → hits_up_to p xs ≤ p
up_to-le zero xs once = omega arith
up_to-le (suc p) xs once = omega (arith, up_to-le p xs once, once (suc p))

-- and one of them doesn't
up_to-lt : (p k : ℕ) (xs : List ℕ) → ((k : ℕ) → hits k xs ≤ 1) → 1 ≤ k → k ≤ p → hits k xs ≡ 0 → suc (hits_up_to p xs) ≤ p
up_to-lt zero k xs once first last none = absurd (omega arith)
up_to-lt (suc p) k xs once first last none = by (cases_lt p k) (λ less. up_to-lt p k xs once first less none)
  where
    by : (p < k) ⊎ (k ≤ p) → (k ≤ p → suc (hits_up_to p xs) ≤ p) → suc (hits_up_to (suc p) xs) ≤ suc p
    by (inl past) later =
        let same : k ≡ suc p = omega arith in
        let here : hits (suc p) xs ≡ 0 = rw (← same) none in
        omega (arith, up_to-le p xs once)
    by (inr less) later = omega (arith, later less, once (suc p))

-- ---- entries

pub hit_where : (es : List Entry) (k : ℕ) → 1 ≤ hits k (captured es) → (i : ℕ) × (slice_get es i ≡ Some (entry.Capture k))
hit_where [] k h = absurd (omega arith)
hit_where (entry.Rest c ∷ es) k h = let r = hit_where es k h in (suc r.0, r.1)
hit_where (entry.Shift c ∷ es) k h = let r = hit_where es k h in (suc r.0, r.1)
hit_where (entry.Capture c ∷ es) k h = by (nat_eq c k) refl (λ more. hit_where es k more)
  where
    by : (b : Bool) → nat_eq c k ≡ b → (1 ≤ hits k (captured es) → (i : ℕ) × (slice_get es i ≡ Some (entry.Capture k))) → (i : ℕ) × (slice_get (entry.Capture c ∷ es) i ≡ Some (entry.Capture k))
    by true e later = (0, ap (λ v. Some (entry.Capture v)) (eqb-true c k e))
    by false e later =
        let same = hits_other c k (captured es) (eqb-false c k e) in
        let r = later (omega arith) in
        (suc r.0, r.1)

pub hit_of : (es : List Entry) (i k : ℕ) → slice_get es i ≡ Some (entry.Capture k) → 1 ≤ hits k (captured es)
hit_of [] i k at = absurd cc
hit_of (entry.Rest c ∷ es) zero k at = absurd cc
hit_of (entry.Rest c ∷ es) (suc i) k at = hit_of es i k at
hit_of (entry.Shift c ∷ es) zero k at = absurd cc
hit_of (entry.Shift c ∷ es) (suc i) k at = hit_of es i k at
hit_of (entry.Capture c ∷ es) zero k at =
    let same : c ≡ k = cc in
    rw same (omega (arith, hits_same k (captured es)))
hit_of (entry.Capture c ∷ es) (suc i) k at = omega (arith, hit_of es i k at)

-- no entry captures what one before it does
abbrev pub AreApart : List Entry → Type 0
AreApart es = (q i k : ℕ) → q < i → slice_get es q ≡ Some (entry.Capture k) → slice_get es i ≡ Some (entry.Capture k) → ⊥

pub apart_once : (es : List Entry) → AreApart es → (k : ℕ) → hits k (captured es) ≤ 1
apart_once [] apart k = omega arith
apart_once (entry.Rest c ∷ es) apart k = apart_once es (λ q i k less a b. apart (suc q) (suc i) k (omega arith) a b) k
apart_once (entry.Shift c ∷ es) apart k = apart_once es (λ q i k less a b. apart (suc q) (suc i) k (omega arith) a b) k
apart_once (entry.Capture c ∷ es) apart k = by (nat_eq c k) refl (apart_once es (λ q i k less a b. apart (suc q) (suc i) k (omega arith) a b) k)
  where
    by : (b : Bool) → nat_eq c k ≡ b → hits k (captured es) ≤ 1 → hits k (c ∷ captured es) ≤ 1
    by false e ih = omega (arith, hits_other c k (captured es) (eqb-false c k e))
    by true e ih = go (cases_lt 0 (hits k (captured es)))
      where
        same : c ≡ k
        same = eqb-true c k e

        go : (0 < hits k (captured es)) ⊎ (hits k (captured es) ≤ 0) → hits k (c ∷ captured es) ≤ 1
        go (inl more) =
            let r = hit_where es k (omega arith) in
            absurd (apart 0 (suc r.0) k (omega arith) (ap (λ v. Some (entry.Capture v)) same) r.1)
        go (inr none) = rw same (omega (arith, hits_same k (captured es)))

module _ (p : ℕ) where
  abbrev pub AreWithin : List Entry → Type 0
  AreWithin es = (i k : ℕ) → slice_get es i ≡ Some (entry.Capture k) → (1 ≤ k) × (k ≤ p)

  pub within_up_to : (es : List Entry) → AreWithin es → length (captured es) ≤ hits_up_to p (captured es)
  within_up_to [] within = omega arith
  within_up_to (entry.Rest c ∷ es) within = within_up_to es (λ i k at. within (suc i) k at)
  within_up_to (entry.Shift c ∷ es) within = within_up_to es (λ i k at. within (suc i) k at)
  within_up_to (entry.Capture c ∷ es) within =
      let here = within 0 c refl in
      omega (arith, within_up_to es (λ i k at. within (suc i) k at), more_up_to p c (captured es) here.0 here.1)

  -- enough captures of patterns, none of them twice, capture each pattern
  pub all_captured : (es : List Entry) → AreWithin es → AreApart es → p ≤ length (captured es) → (k : ℕ) → 1 ≤ k → k ≤ p →
      (i : ℕ) × (slice_get es i ≡ Some (entry.Capture k))
  all_captured es within apart enough k first last = by (cases_lt 0 (hits k (captured es)))
    where
      by : (0 < hits k (captured es)) ⊎ (hits k (captured es) ≤ 0) → (i : ℕ) × (slice_get es i ≡ Some (entry.Capture k))
      by (inl more) = hit_where es k (omega arith)
      by (inr none) =
          let zero' : hits k (captured es) ≡ 0 = omega arith in
          absurd (omega (arith, within_up_to es within, up_to-lt p k (captured es) (apart_once es apart) first last zero'))

  -- entries that capture each pattern make enough captures
  pub enough_captured : (es : List Entry) → ((k : ℕ) → 1 ≤ k → k ≤ p → (i : ℕ) × (slice_get es i ≡ Some (entry.Capture k))) → p ≤ length (captured es)
  enough_captured es each =
      omega (arith, up_to-le-length p (captured es), each_up_to p (captured es) (λ k first last. let r = each k first last in hit_of es r.0 k r.1))
