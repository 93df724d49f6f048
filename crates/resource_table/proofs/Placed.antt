-- Lists of placed tests.
use Rattle.std.proofs.Common.{◌≡◌, ◌≢◌, ℕ, zero, suc, ◌+◌, ◌<◌, ◌≤◌, inl, inr, None, Some, List, [], ◌∷◌, ◌++◌, length, get_or, set, take, drop, arith, false, refl, sym, ap, subst, slice_get, nat_eq, nat_le, if◌then◌else◌, is_some}
use Rattle.std.{specs.List.sum_by, proofs.lemmas.Option.slice_get_within}
use Rattle.std.proofs.lemmas.Bool.{cases_Bool, eqb-true, eqb-false, eq-eqb, ne_eqb, or_parts, le-leb}
use Rattle.std.proofs.lemmas.List.{take-append-le, take_at, take-append-drop, length-set, get_or-set_other, Sums.sum_by-cons, Sums.sum_by-set, Sums.sum_by-le}
use Rattle.plan_model.{specs.Rules.Each, proofs.Lists.from_append, proofs.Lists.none_of, proofs.Sums.sum_by-le_at}
use Rattle.resource_table.specs.{declared.Placement.Placement, Resources.end_in}
use Rattle.resource_table.specs.Jobs.{TestValue, JobValue, no_test, IsSoundJob}
use Rattle.resource_table.specs.Schedules.{TableValue, end_of, is_placed, IsSoundTable}
use Rattle.common_lemmas.proofs.Lists.{in_take, at_last, at_left}

-- ---- each item, given those before it

pub each_push : {X : Type 0} (P : List X → X → Type 0) (xs : List X) (x : X) → Each P xs → P xs x → Each P (xs ++ x ∷ [])
each_push {X} P xs x each here n y at = elim (from_append xs (x ∷ []) n y at) [
  | inl old ↦
      let within = slice_get_within xs n y old in
      rw (take-append-le n xs (x ∷ []) (omega arith)) (each n y old)
  | inr new ↦ last new.0 new.1 new.2
]
  where
    last : (j : ℕ) → n ≡ length xs + j → slice_get (x ∷ []) j ≡ Some y → P (take n (xs ++ x ∷ [])) y
    last zero e at =
        let same : x ≡ y = cc in
        rw (take_at xs (x ∷ []) n (omega arith)) (rw same at here)
    last (suc j) e at = absurd cc

pub each_front : {X : Type 0} (P : List X → X → Type 0) (xs ys : List X) → Each P (xs ++ ys) → Each P xs
each_front {X} P xs ys each n y at =
    let within = slice_get_within xs n y at in
    rw (take-append-le n xs ys (omega arith)) at (each n y (at_left xs ys n y at))

pub each_take : {X : Type 0} (P : List X → X → Type 0) (n : ℕ) (xs : List X) → Each P xs → Each P (take n xs)
each_take P n xs each = each_front P (take n xs) (drop n xs) (rw (take-append-drop n xs) each)

pub each_last : {X : Type 0} (P : List X → X → Type 0) (xs : List X) (x : X) → Each P (xs ++ x ∷ []) → P xs x
each_last {X} P xs x each =
    rw (take_at xs (x ∷ []) (length xs) refl) at (each (length xs) x (at_last xs x))

-- ---- tests of a sound table

-- the tests stand at different places of the job
pub record AreTests (tests : List TestValue) (placed : List Placement) : Type 0 where
  pub inside : (i : ℕ) (p : Placement) → slice_get placed i ≡ Some p → p.test < length tests
  pub differ : (i j : ℕ) (p q : Placement) → i < j → slice_get placed i ≡ Some p → slice_get placed j ≡ Some q → p.test ≡ q.test → ⊥

pub not_placed : (placed : List Placement) (test i : ℕ) (p : Placement) → is_placed placed test ≡ false → slice_get placed i ≡ Some p → p.test ≡ test → ⊥
not_placed placed test i p none at same = eqb-false p.test test (none_of (λ (p : Placement). nat_eq p.test test) placed none i p at) same

pub sound_tests : (t : TableValue) → IsSoundTable t → AreTests t.job.tests t.placed
sound_tests t sound = record {
  inside = (λ i p at. (sound.placed i p at).in_job);
  differ = (λ i j p q less at at' same. not_placed (take j t.placed) q.test i p (sound.placed j q at').new (in_take t.placed j i p less at) same);
}

-- ---- sums over the placed tests

-- a sum over different tests is at most the sum over all
pub sum_of_placed : (f : TestValue → ℕ) → f no_test ≡ 0 → (placed : List Placement) (tests : List TestValue) → AreTests tests placed → sum_by (λ (p : Placement). f (get_or tests p.test no_test)) placed ≤ sum_by f tests
sum_of_placed f none [] tests are = omega arith
sum_of_placed f none (p ∷ placed) tests are =
    let rest = set tests p.test no_test in
    let within = are.inside 0 p refl in
    let long = length-set tests p.test no_test in
    let ih = sum_of_placed f none placed rest (record {
      inside = (λ i q at. let h = are.inside (suc i) q at in omega (arith, h));
      differ = (λ i j q r less at at' same. are.differ (suc i) (suc j) q r (omega arith) at at' same);
    }) in
    let less : sum_by (λ (q : Placement). f (get_or tests q.test no_test)) placed ≤ sum_by (λ (q : Placement). f (get_or rest q.test no_test)) placed =
    sum_by-le_at (λ (q : Placement). f (get_or tests q.test no_test)) (λ (q : Placement). f (get_or rest q.test no_test)) placed
    (λ i q at. let other : q.test ≢ p.test = (λ e. are.differ 0 (suc i) p q (omega arith) refl at (sym e)) in
    let same = ap f (get_or-set_other tests p.test q.test no_test no_test other) in omega (arith, same)) in
    omega (arith, sum_by-cons (λ (q : Placement). f (get_or tests q.test no_test)) p placed, sum_by-set f tests p.test no_test no_test within, ih, less, none)

-- 1 for a test that lasts a cycle
abbrev lasting : TestValue → ℕ
lasting t = if nat_le 1 t.cycles then 1 else 0

lasting-le : (t : TestValue) → lasting t ≤ 1
lasting-le t = elim (cases_Bool (nat_le 1 t.cycles)) [ inl yes' ↦ rw yes' (omega arith) | inr no' ↦ rw no' (omega arith) ]

count_lasting : (job : JobValue) → IsSoundJob job → (placed : List Placement) → ((i : ℕ) (p : Placement) → slice_get placed i ≡ Some p → p.test < length job.tests) → sum_by (λ (p : Placement). lasting (get_or job.tests p.test no_test)) placed ≡ length placed
count_lasting job sound [] inside = refl
count_lasting job sound (p ∷ placed) inside =
    let here = (sound.tests p.test no_test (inside 0 p refl)).lasts in
    let one : lasting (get_or job.tests p.test no_test) ≡ 1 = rw (le-leb 1 (get_or job.tests p.test no_test).cycles here) refl in
    omega (arith, sum_by-cons (λ (p : Placement). lasting (get_or job.tests p.test no_test)) p placed, one, count_lasting job sound placed (λ i q at. inside (suc i) q at))

-- there are at most as many as the job has tests
pub few_placed : (job : JobValue) (placed : List Placement) → IsSoundJob job → AreTests job.tests placed → length placed ≤ length job.tests
few_placed job placed sound are =
    let most = sum_by-le lasting 1 job.tests (λ k d lt. lasting-le (get_or job.tests k d)) in
    omega (arith, sum_of_placed lasting refl placed job.tests are, most, count_lasting job sound placed are.inside)

-- ---- whether and where a test ends

module _ (job : JobValue) where
  pub end_is_some : (placed : List Placement) (test : ℕ) → is_some (end_in job placed test) ≡ is_placed placed test
  end_is_some [] test = refl
  end_is_some (p ∷ placed) test = elim (cases_Bool (nat_eq p.test test)) [
    | inl yes' ↦ rw yes' refl
    | inr no' ↦ rw no' (end_is_some placed test)
  ]

  pub end_none : (placed : List Placement) (test : ℕ) → is_placed placed test ≡ false → end_in job placed test ≡ None
  end_none [] test none = refl
  end_none (p ∷ placed) test none =
      let parts = or_parts (nat_eq p.test test) (is_placed placed test) none in
      rw parts.0 (end_none placed test parts.1)

  pub end_new : (placed : List Placement) (p : Placement) → is_placed placed p.test ≡ false → end_in job (placed ++ p ∷ []) p.test ≡ Some (end_of job p)
  end_new [] p none = let same = eq-eqb p.test p.test refl in rw same refl
  end_new (q ∷ placed) p none =
      let parts = or_parts (nat_eq q.test p.test) (is_placed placed p.test) none in
      rw parts.0 (end_new placed p parts.1)

  pub end_other : (placed : List Placement) (p : Placement) (test : ℕ) → (p.test ≡ test → ⊥) → end_in job (placed ++ p ∷ []) test ≡ end_in job placed test
  end_other [] p test other = let here = ne_eqb p.test test other in rw here refl
  end_other (q ∷ placed) p test other = elim (cases_Bool (nat_eq q.test test)) [
    | inl yes' ↦ rw yes' refl
    | inr no' ↦ rw no' (end_other placed p test other)
  ]

  -- an end is that of a placed test
  pub end_from : (placed : List Placement) (test e : ℕ) → end_in job placed test ≡ Some e →
      (i : ℕ) × (p : Placement) × (slice_get placed i ≡ Some p) × (p.test ≡ test) × (e ≡ end_of job p)
  end_from [] test e h = absurd cc
  end_from (p ∷ placed) test e h = elim (cases_Bool (nat_eq p.test test)) [
    | inl yes' ↦
        let h' = rw yes' at h in
        (0, p, refl, eqb-true p.test test yes', cc)
    | inr no' ↦
        let h' = rw no' at h in
        let r = end_from placed test e h' in (suc r.0, r.1, r.2, r.3, r.4)
  ]

  -- and each placed test has its end there
  pub end_at : (tests : List TestValue) (placed : List Placement) (i : ℕ) (p : Placement) → AreTests tests placed → slice_get placed i ≡ Some p →
      end_in job placed p.test ≡ Some (end_of job p)
  end_at tests [] i p are at = absurd cc
  end_at tests (q ∷ placed) zero p are at =
      let same : q ≡ p = cc in
      subst (λ v. end_in job (v ∷ placed) p.test ≡ Some (end_of job p)) (sym same) (let e = eq-eqb p.test p.test refl in rw e refl)
  end_at tests (q ∷ placed) (suc i) p are at =
      let rest : AreTests tests placed = record { inside = (λ k x h. are.inside (suc k) x h); differ = (λ k l x y less h h' same. are.differ (suc k) (suc l) x y (omega arith) h h' same) } in
      rw (ne_eqb q.test p.test (λ e. are.differ 0 (suc i) q p (omega arith) refl at e)) (end_at tests placed i p rest at)
