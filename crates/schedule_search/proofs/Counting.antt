-- Lists in which nothing stands twice, and how long they are.
use Rattle.std.proofs.Common.{◌≡◌, ◌⊎◌, inl, inr, ℕ, zero, suc, ◌<◌, ◌≤◌, Some, List, [], ◌∷◌, ◌++◌, length, take, refl, sym, ap, subst, arith, length-append, slice_get, Contains}
use Rattle.std.proofs.lemmas.Bool.{cases_Bool}
use Rattle.std.proofs.lemmas.List.Elements.{Contains-append_left, Contains-append_right, Contains-append_cases}
use Rattle.plan_model.specs.Rules.{Each}
use Rattle.plan_model.proofs.Lists.{at_contains, split_at}
use Rattle.resource_table.specs.Jobs.{JobValue}
use Rattle.schedule_search.specs.Orders.{IsReady, IsTopological}
use Rattle.schedule_search.specs.Walks.{is_in}
use Rattle.schedule_search.proofs.Following.{in_from, in_to}
use Rattle.common_lemmas.proofs.Lists.{in_take, contains_at}

-- no item stands at two places
abbrev pub NoTwice : List ℕ → Type 0
NoTwice xs = (i j a : ℕ) → i < j → slice_get xs i ≡ Some a → slice_get xs j ≡ Some a → ⊥

without : (p q : List ℕ) (x a : ℕ) → (a ≡ x → ⊥) → Contains (p ++ x ∷ q) a → Contains (p ++ q) a
without p q x a apart there = elim (Contains-append_cases p (x ∷ q) a there) [
  | inl left ↦ Contains-append_left p q a left
  | inr right ↦ let k = contains_at (x ∷ q) a right in behind k.0 k.1
]
  where
    behind : (k : ℕ) → slice_get (x ∷ q) k ≡ Some a → Contains (p ++ q) a
    behind zero at = absurd (apart (let e : x ≡ a = cc in sym e))
    behind (suc k) at = Contains-append_right p q a (at_contains q k a at)

-- what stands in a list once, and all of it in another one
pub no_longer : (xs ys : List ℕ) → NoTwice xs → ((a : ℕ) → Contains xs a → Contains ys a) → length xs ≤ length ys
no_longer [] ys once there = omega arith
no_longer (x ∷ xs) ys once there =
    let at = contains_at ys x (there x (at_contains (x ∷ xs) 0 x refl)) in
    let split = split_at ys at.0 x at.1 in
    let fewer : length xs ≤ length (split.0 ++ split.1) = no_longer xs (split.0 ++ split.1) (λ i j a less one other. once (suc i) (suc j) a (omega (arith, less)) one other)
    (λ a has.
    let k = contains_at xs a has in
    let in_ys : Contains (split.0 ++ x ∷ split.1) a = subst (λ (l : List ℕ). Contains l a) split.2 (there a (at_contains (x ∷ xs) (suc k.0) a k.1)) in
    without split.0 split.1 x a (λ same. once 0 (suc k.0) a (omega arith) (ap Some (sym same)) k.1) in_ys) in
    omega (arith, fewer, ap length split.2, length-append split.0 (x ∷ split.1), length-append split.0 split.1)

-- ---- the first numbers

abbrev below : ℕ → List ℕ
below zero = []
below (suc n) = n ∷ below n

below-long : (n : ℕ) → length (below n) ≡ n
below-long zero = refl
below-long (suc n) = omega (arith, below-long n)

below-has : (n a : ℕ) → a < n → Contains (below n) a
below-has zero a less = absurd (omega (arith, less))
below-has (suc n) a less = elim (split a n less) [
  | inl same ↦ at_contains (n ∷ below n) 0 a (ap Some (sym same))
  | inr less' ↦ Contains-append_right (n ∷ []) (below n) a (below-has n a less')
]
  where
    split : (a n : ℕ) → a < suc n → (a ≡ n) ⊎ (a < n)
    split a n less = grind (arith, less)

below-at : (n i a : ℕ) → slice_get (below n) i ≡ Some a → a < n
below-at zero i a at = absurd cc
below-at (suc n) zero a at = let e : n ≡ a = cc in omega (arith, e)
below-at (suc n) (suc i) a at = let ih = below-at n i a at in omega (arith, ih)

below-once : (n : ℕ) → NoTwice (below n)
below-once zero i j a less one other = cc
below-once (suc n) i zero a less one other = omega (arith, less)
below-once (suc n) zero (suc j) a less one other = let e : n ≡ a = cc in let small = below-at n j a other in omega (arith, e, small)
below-once (suc n) (suc i) (suc j) a less one other = below-once n i j a (omega (arith, less)) one other

-- ---- orders

pub ready_once : (job : JobValue) (order : List ℕ) → Each (IsReady job) order → NoTwice order
ready_once job order ready i j a less one other = (ready j a other).new (at_contains (take j order) i a (in_take order j i a less one))

pub ready_within : (job : JobValue) (order : List ℕ) → Each (IsReady job) order → (a : ℕ) → Contains order a → a < length job.tests
ready_within job order ready a has = let k = contains_at order a has in (ready k.0 a k.1).in_job

pub ready_few : (job : JobValue) (order : List ℕ) → Each (IsReady job) order → length order ≤ length job.tests
ready_few job order ready =
    let few = no_longer order (below (length job.tests)) (ready_once job order ready) (λ a has. below-has (length job.tests) a (ready_within job order ready a has)) in
    omega (arith, few, below-long (length job.tests))

-- a topological order has as many tests as the job
pub topological_long : (job : JobValue) (order : List ℕ) → IsTopological job order → length order ≡ length job.tests
topological_long job order topological =
    let few = ready_few job order topological.ready in
    let all = no_longer (below (length job.tests)) order (below-once (length job.tests)) (λ a has. let k = contains_at (below (length job.tests)) a has in topological.whole a (below-at (length job.tests) k.0 a k.1)) in
    omega (arith, few, all, below-long (length job.tests))

one_more : (test : ℕ) (order : List ℕ) → NoTwice order → (Contains order test → ⊥) → NoTwice (test ∷ order)
one_more test order once new i zero a less one other = omega (arith, less)
one_more test order once new zero (suc j) a less one other = let e : test ≡ a = cc in new (subst (Contains order) (sym e) (at_contains order j a other))
one_more test order once new (suc i) (suc j) a less one other = once i j a (omega (arith, less)) one other

-- and ready tests, as many as the job has, are a topological order
pub whole_topological : (job : JobValue) (order : List ℕ) → Each (IsReady job) order → length order ≡ length job.tests → IsTopological job order
whole_topological job order ready long = record {
  ready = ready;
  whole = λ test within. elim (cases_Bool (is_in order test)) [
    | inl yes' ↦ in_to order test yes'
    | inr no' ↦
        let more = no_longer (test ∷ order) (below (length job.tests)) (one_more test order (ready_once job order ready) (λ has. let there = in_from order test has in cc))
        (λ a has. below-has (length job.tests) a (within_more test within a has)) in
        absurd (omega (arith, more, below-long (length job.tests), long))
  ];
}
  where
    within_more : (test : ℕ) → test < length job.tests → (a : ℕ) → Contains (test ∷ order) a → a < length job.tests
    within_more test within a has = elim (Contains-append_cases (test ∷ []) order a has) [
      | inl here ↦ let k = contains_at (test ∷ []) a here in only k.0 k.1
      | inr there ↦ ready_within job order ready a there
    ]
      where
        only : (k : ℕ) → slice_get (test ∷ []) k ≡ Some a → a < length job.tests
        only zero at = let e : test ≡ a = cc in omega (arith, e, within)
        only (suc k) at = absurd cc
