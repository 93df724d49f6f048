-- What is noted of the neighbours in a list, while their pairs are written and while precedences are noted.
use Rattle.std.proofs.Common.{◌≡◌, ℕ, ◌+◌, ◌<◌, ◌||◌, Bool, true, false, Some, None, Option, option_map, List, [], ◌∷◌, ◌++◌, length, get_or, take, refl, ap, ◌∙◌, sym, arith, inl, inr, slice_get, is_some, IsTrue, ◌↔◌, if◌then◌else◌, Contains}
use Rattle.std.specs.List.{list_any}
use Rattle.std.proofs.lemmas.Bool.{cases_Bool, cases_lt, and_parts}
use Rattle.std.proofs.lemmas.List.{take_more}
use Rattle.soc_model.specs.declared.TestId.{TestId}
use Rattle.soc_model.specs.Chips.{same_test}
use Rattle.plan_model.proofs.Lists.{any_from, at_contains}
use Rattle.plan_model.proofs.CertificatesAreBounds.{same_test_is, is_same_test}
use Rattle.bound_certificate.specs.Pairs.{same_pair, is_among, replaced, with_note}
use Rattle.common_lemmas.proofs.Lists.{any_at, contains_at}

-- ---- pairs

pub same_pair_itself : (p : TestId × TestId) → same_pair p p ≡ true
same_pair_itself p = rw (is_same_test p.0, is_same_test p.1) refl

pair_is : (x y a b : TestId) → x ≡ a → y ≡ b → ◌≡◌ {A = TestId × TestId} (x, y) (a, b)
pair_is x y a b e f = rw (e, f) refl

pub among_contains : (before : List (TestId × TestId)) (a b : TestId) → IsTrue (is_among before (a, b)) ↔ Contains before (a, b)
among_contains before a b = (there, back)
  where
    there : is_among before (a, b) ≡ true → Contains before (a, b)
    there h =
        let k = any_at (λ p. same_pair p (a, b)) before h in
        let both = and_parts (same_test (k.1).0 a) (same_test (k.1).1 b) k.3 in
        let first : (k.1).0 ≡ a = same_test_is (k.1).0 a both.0 in
        let second : (k.1).1 ≡ b = same_test_is (k.1).1 b both.1 in
        at_contains before k.0 (a, b) (k.2 ∙ ap Some (pair_is (k.1).0 (k.1).1 a b first second))

    back : Contains before (a, b) → is_among before (a, b) ≡ true
    back c = let k = contains_at before (a, b) c in any_from (λ p. same_pair p (a, b)) before k.0 (a, b) k.1 (same_pair_itself (a, b))

-- what is noted is what was asked
pub stated_contains : (before : List (TestId × TestId)) (a b : TestId) (r : Bool) → r ≡ is_among before (a, b) → IsTrue r ↔ Contains before (a, b)
stated_contains before a b r is = rw is (among_contains before a b)

same_pair_is : (p q : TestId × TestId) → same_pair p q ≡ true → p ≡ q
same_pair_is p q h =
    let both = and_parts (same_test p.0 q.0) (same_test p.1 q.1) h in
    pair_is p.0 p.1 q.0 q.1 (same_test_is p.0 q.0 both.0) (same_test_is p.1 q.1 both.1)

-- what is replaced of a pair of which something is noted
pub replaced_is : (old : TestId × TestId → Option Bool) (p q : TestId × TestId) (b t : Bool) (n : Option Bool) → t ≡ is_some (old p) → t ≡ true → n ≡ replaced p b q (old q) → n ≡ with_note p b q (old q)
replaced_is old p q b t n is yes' e = elim (cases_Bool (same_pair p q)) [
  | inr other ↦ let e' = rw other at e in rw other e'
  | inl here ↦
      let same : p ≡ q = same_pair_is p q here in
      let e' = rw here at e in
      rw here (e' ∙ some (old q) (sym (ap (λ r. is_some (old r)) (sym same) ∙ sym is ∙ yes')))
]
  where
    some : (o : Option Bool) → true ≡ is_some o → option_map (λ _. b) o ≡ Some b
    some None h = absurd cc
    some (Some x) h = refl

-- ---- the pairs are written

-- the pairs up to a place are noted with false
abbrev pub AreListed : (TestId × TestId → Option Bool) → List TestId → ℕ → Type 0
AreListed noted tests i = (k : ℕ) → k < i → (a b : TestId) → slice_get tests k ≡ Some a → slice_get tests (k + 1) ≡ Some b → noted (a, b) ≡ Some false

pub listed_more : (old new : TestId × TestId → Option Bool) (tests : List TestId) (i : ℕ) (x y : TestId) → AreListed old tests i → slice_get tests i ≡ Some x → slice_get tests (i + 1) ≡ Some y → ((q : TestId × TestId) → new q ≡ with_note (x, y) false q (old q)) → AreListed new tests (i + 1)
listed_more old new tests i x y listed at next put k less a b at' next' = elim (cases_lt k i) [
  | inl before ↦ put (a, b) ∙ kept (same_pair (x, y) (a, b)) (old (a, b)) (listed k before a b at' next')
  | inr this ↦
      let same : k ≡ i = omega arith in
      let at'' = rw same at at' in
      let next'' = rw same at next' in
      let first : x ≡ a = cc in
      let second : y ≡ b = cc in
      put (a, b) ∙ rw (first, second, same_pair_itself (a, b)) refl
]
  where
    kept : (t : Bool) (o : Option Bool) → o ≡ Some false → (if t then Some false else o) ≡ Some false
    kept true o e = refl
    kept false o e = e

-- ---- precedences are noted

either : (t r : Bool) (o : Option Bool) → (if t then option_map (λ _. true) (option_map (λ b. b || r) o) else option_map (λ b. b || r) o) ≡ option_map (λ b. b || (r || t)) o
either true true None = refl
either true false None = refl
either false r None = refl
either true true (Some true) = refl
either true true (Some false) = refl
either true false (Some true) = refl
either true false (Some false) = refl
either false true (Some true) = refl
either false true (Some false) = refl
either false false (Some true) = refl
either false false (Some false) = refl

any_push : {X : Type 0} (p : X → Bool) (xs : List X) (x : X) → list_any p (xs ++ x ∷ []) ≡ (list_any p xs || p x)
any_push p [] x = one (p x) where
  one : (t : Bool) → (t || false) ≡ t
  one true = refl
  one false = refl
any_push p (y ∷ xs) x = ap (λ t. p y || t) (any_push p xs x) ∙ turned (p y) (list_any p xs) (p x)
  where
    turned : (a b c : Bool) → (a || (b || c)) ≡ ((a || b) || c)
    turned true b c = refl
    turned false b c = refl

pub noted_more : (first now new : TestId × TestId → Option Bool) (before : List (TestId × TestId)) (i : ℕ) (d : TestId × TestId) → i < length before → ((q : TestId × TestId) → now q ≡ option_map (λ b. b || is_among (take i before) q) (first q)) →
    ((q : TestId × TestId) → new q ≡ replaced (get_or before i d) true q (now q)) → (q : TestId × TestId) → new q ≡ option_map (λ b. b || is_among (take (i + 1) before) q) (first q)
noted_more first now new before i d within so_far step q =
    let more : is_among (take (i + 1) before) q ≡ (is_among (take i before) q || same_pair (get_or before i d) q) = ap (λ l. is_among l q) (take_more before i d within) ∙ any_push (λ p. same_pair p q) (take i before) (get_or before i d) in
    step q ∙ rw (so_far q, more) (either (same_pair (get_or before i d) q) (is_among (take i before) q) (first q))

pub none_noted : (o : Option Bool) → o ≡ option_map (λ b. b || false) o
none_noted None = refl
none_noted (Some true) = refl
none_noted (Some false) = refl

-- nothing was noted before
pub only_stated : (r : Bool) (o n : Option Bool) → n ≡ option_map (λ b. b || r) o → o ≡ Some false → n ≡ Some r
only_stated r o n is none = is ∙ rw none refl
