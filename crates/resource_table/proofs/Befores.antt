-- The tests before each test, listed precedence by precedence.
use Rattle.std.proofs.Common.{◌≡◌, ℕ, ◌<◌, Some, List, [], ◌∷◌, length, get_or, map, Bool, true, false, cond, nat_eq, refl, ◌∙◌, ap, arith}
use Rattle.std.specs.{Prelude.slice_index_or, Prelude.slice_set, List.Contains, List.filter}
use Rattle.std.proofs.lemmas.{Grind.common_steps, List.length-map, Option.slice_get-map}
use Rattle.std.proofs.lemmas.Bool.{eqb-true, eq-eqb}
use Rattle.plan_model.proofs.Lists.{from_filter, at_contains}
use Rattle.live_tests.specs.{declared.neighbours.Neighbours.Neighbours, Neighbours.before}
use Rattle.resource_table.specs.{Befores.listed, Befores.tests_before, Befores.AreListed, Jobs.JobValue}
use Rattle.common_lemmas.proofs.{Tests.eq_turned, Lists.in_filter, Lists.from_map, Lists.contains_at}

pub set_at : {X : Type 0} (xs : List X) (i j : ℕ) (v d : X) → i < length xs → j ≡ i → get_or (slice_set xs i v) j d ≡ v
set_at xs i j v d within same = grind (arith, common_steps)

pub set_other : {X : Type 0} (xs : List X) (i j : ℕ) (v d : X) → (j ≡ i → ⊥) → get_or (slice_set xs i v) j d ≡ get_or xs j d
set_other xs i j v d apart = grind (arith, common_steps)

-- what is listed beside the live tests are the tests that precede one
pub before_is : (i : ℕ) (pairs : List (ℕ × ℕ)) → before i pairs ≡ tests_before i pairs
before_is i [] = refl
before_is i (p ∷ pairs) = by (nat_eq i p.1) (nat_eq p.1 i) (eq_turned i p.1) (before_is i pairs)
  where
    by : (b c : Bool) → b ≡ c → before i pairs ≡ tests_before i pairs → cond b (p.0 ∷ before i pairs) (before i pairs) ≡ map (λ (q : ℕ × ℕ). q.0) (cond c (p ∷ filter (λ (q : ℕ × ℕ). nat_eq q.1 i) pairs) (filter (λ (q : ℕ × ℕ). nat_eq q.1 i) pairs))
    by true true e rest = ap (λ l. p.0 ∷ l) rest
    by true false e rest = absurd cc
    by false true e rest = absurd cc
    by false false e rest = rest

-- ---- what is listed

module _ (pairs : List (ℕ × ℕ)) (i j : ℕ) where
  pub before_from : Contains (tests_before j pairs) i → Contains pairs (i, j)
  before_from c =
      let at = contains_at (tests_before j pairs) i c in
      let a = from_map (λ (p : ℕ × ℕ). p.0) (filter (λ (p : ℕ × ℕ). nat_eq p.1 j) pairs) at.0 i at.1 in
      let b = from_filter (λ (p : ℕ × ℕ). nat_eq p.1 j) pairs at.0 a.0 a.1 in
      at_contains pairs b.0 (i, j) (b.1 ∙ ap (λ n. Some (n, (a.0).1)) a.2 ∙ ap (λ n. Some (i, n)) (eqb-true (a.0).1 j b.2))

  pub before_has : Contains pairs (i, j) → Contains (tests_before j pairs) i
  before_has c =
      let at = contains_at pairs (i, j) c in
      let n = in_filter (λ (p : ℕ × ℕ). nat_eq p.1 j) pairs at.0 (i, j) at.1 (eq-eqb j j refl) in
      at_contains (tests_before j pairs) n.0 i (slice_get-map (λ (p : ℕ × ℕ). p.0) (filter (λ (p : ℕ × ℕ). nat_eq p.1 j) pairs) n.0 ∙ rw n.1 refl)

-- the lists for a job
pub listed_new : (job : JobValue) (lists : List Neighbours) (count : ℕ) (pairs : List (ℕ × ℕ)) → count ≡ length job.tests → pairs ≡ job.before → length lists ≡ count → ((i : ℕ) → i < count → slice_index_or (map listed lists) i [] ≡ tests_before i pairs) → AreListed job (map listed lists)
listed_new job lists count pairs count_is pairs_is long are = record {
  long = length-map lists listed ∙ long ∙ count_is;
  are = (λ test lt. are test (omega (arith, lt, count_is)) ∙ ap (tests_before test) pairs_is);
}
