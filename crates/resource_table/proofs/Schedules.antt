-- Sound tables and list schedules.
use Rattle.std.proofs.Common.{◌≡◌, ℕ, zero, suc, ◌+◌, ◌-◌, ◌<◌, ◌≤◌, ◌^◌, inl, inr, Option, Some, List, [], ◌∷◌, ◌++◌, length, get_or, take, max, arith, true, false, refl, sym, ap, ◌∙◌, subst, slice_get, nat_le, nat_lt, nat_eq, IfSome}
use Rattle.std.{specs.List.All, specs.List.sum_by, proofs.lemmas.Option.slice_get_within, proofs.lemmas.Option.slice_get-get_or}
use Rattle.std.proofs.lemmas.Bool.{cases_Bool, cases_order, eqb-true, leb-true, ltb-true, le-ltb, and_parts, and_right}
use Rattle.std.proofs.lemmas.List.{take_all, take_more, Elements.All-head, Elements.All-tail, Sums.sum_by-cons, Sums.sum_by_push, Sums.sum_by-append}
use Rattle.plan_model.{specs.Plans.step_power, proofs.Lists.from_append, proofs.Greatest.le-greatest_at}
use Rattle.resource_table.specs.declared.Placement.{Placement}
use Rattle.resource_table.specs.Jobs.{TestValue, JobValue, test_at, no_test, cycles_of, Precedes, IsSoundJob}
use Rattle.resource_table.specs.Schedules.{TableValue, at_start, exclude, end_of, last_end, IsActive, is_active, drawn, power_of, power_at, is_placed, Fits, IsEarliest, IsSoundTable, IsListSchedule}
use Rattle.resource_table.proofs.Placed.{each_push, AreTests, sound_tests, sum_of_placed, not_placed}
use Rattle.common_lemmas.proofs.{Options.if_fewer, Options.if_some, Lists.in_take, Lists.any_at, Lists.at_left}

-- ---- a sound table keeps the rules

pub sound_apart : (t : TableValue) (i j c : ℕ) (p q : Placement) → IsSoundTable t → i < j → slice_get t.placed i ≡ Some p → slice_get t.placed j ≡ Some q →
    exclude (test_at t.job p.test) (test_at t.job q.test) ≡ true → IsActive t.job p c → IsActive t.job q c → ⊥
sound_apart t i j c p q sound less at at' clash active active' =
    (sound.placed j q at').fits.apart i p c (in_take t.placed j i p less at) clash active active'

with_drawn : (job : JobValue) (placed : List Placement) (p : Placement) (c most : ℕ) → power_at job placed c ≤ most → (IsActive job p c → power_at job placed c + power_of job p.test (c - p.start) ≤ most) →
    power_at job placed c + drawn job c p ≤ most
with_drawn job placed p c most before now = elim (cases_Bool (is_active job c p)) [
  | inr no' ↦ rw no' (omega arith)
  | inl yes' ↦
      let parts = and_parts (nat_le p.start c) (nat_lt c (end_of job p)) yes' in
      rw yes' (now (leb-true p.start c parts.0, ltb-true c (end_of job p) parts.1))
]

from_some : {X : Type 0} (o : Option X) (P : X → Type 0) (x : X) → IfSome o P → o ≡ Some x → P x
from_some o P x h is = rw is at h

no_placement : Placement
no_placement = record { test = 0; start = 0 }

one_more : (placed : List Placement) (n : ℕ) → n < length placed → take (suc n) placed ≡ take n placed ++ get_or placed n no_placement ∷ []
one_more placed n lt = ap (λ k. take k placed) (let e : suc n ≡ n + 1 = omega arith in e) ∙ take_more placed n no_placement lt

module _ (t : TableValue) (c : ℕ) (sound : IsSoundTable t) where
  power_front : (n : ℕ) → n ≤ length t.placed → (most : ℕ) → t.job.power ≡ Some most → power_at t.job (take n t.placed) c ≤ most
  power_front zero le most is = omega arith
  power_front (suc n) le most is =
      let p = get_or t.placed n no_placement in
      let at = slice_get-get_or t.placed n no_placement (omega arith) in
      let more = with_drawn t.job (take n t.placed) p c most (power_front n (omega arith) most is)
      (λ active. from_some t.job.power (λ most. power_at t.job (take n t.placed) c + power_of t.job p.test (c - p.start) ≤ most) most ((sound.placed n p at).fits.power c active) is) in
      let split = sum_by_push (drawn t.job c) (take n t.placed) p in
      subst (λ v. power_at t.job v c ≤ most) (sym (one_more t.placed n (omega arith))) (omega arith)

  pub sound_power : IfSome t.job.power (λ most. power_at t.job t.placed c ≤ most)
  sound_power = if_some t.job.power (λ most. power_at t.job t.placed c ≤ most)
      (λ most is. rw (take_all (length t.placed) t.placed (omega arith)) at (power_front (length t.placed) (omega arith) most is))

from_take : {X : Type 0} (xs : List X) (n i : ℕ) (x : X) → slice_get (take n xs) i ≡ Some x → slice_get xs i ≡ Some x
from_take [] zero i x at = absurd cc
from_take [] (suc n) i x at = absurd cc
from_take (y ∷ xs) zero i x at = absurd cc
from_take (y ∷ xs) (suc n) zero x at = at
from_take (y ∷ xs) (suc n) (suc i) x at = from_take xs n i x at

pub sound_order : (t : TableValue) (i j : ℕ) (p q : Placement) → IsSoundTable t → slice_get t.placed i ≡ Some p → slice_get t.placed j ≡ Some q → Precedes t.job p.test q.test → end_of t.job p ≤ q.start
sound_order t i j p q sound at at' before =
    let may = sound.placed j q at' in
    let are = sound_tests t sound in
    let r = any_at (λ (x : Placement). nat_eq x.test p.test) (take j t.placed) (may.ready p.test before) in
    let there = from_take t.placed j r.0 r.1 r.2 in
    let same = eqb-true r.1.test p.test r.3 in
    elim (cases_order r.0 i) [
      | inl here ↦
          let is = rw here at there in
          let one : r.1 ≡ p = cc in
          rw one at (may.fits.after r.0 r.1 r.2 (rw same before))
      | inr other ↦ elim other [
        | inl less ↦ absurd (are.differ r.0 i r.1 p less there at same)
        | inr more ↦ absurd (are.differ i r.0 p r.1 more at there (sym same))
      ]
    ]

-- ---- list schedules

within_limit : (most r now : ℕ) (steps : List (ℕ × ℕ)) → now ≤ most → All (λ (s : ℕ × ℕ). s.1 ≤ most) steps → step_power r now steps ≤ most
within_limit most r now [] le all = le
within_limit most r now (s ∷ steps) le all =
    let here = All-head (λ (s : ℕ × ℕ). s.1 ≤ most) s steps all in
    let rest = All-tail (λ (s : ℕ × ℕ). s.1 ≤ most) s steps all in
    elim (cases_Bool (nat_le s.0 r)) [
      | inl yes' ↦ rw yes' (within_limit most r s.1 steps here rest)
      | inr no' ↦ rw no' (within_limit most r now steps le rest)
    ]

module _ (job : JobValue) where
  -- no power where all tests have ended
  power_over : (placed : List Placement) (c : ℕ) → ((i : ℕ) (p : Placement) → slice_get placed i ≡ Some p → end_of job p ≤ c) → power_at job placed c ≡ 0
  power_over [] c over = refl
  power_over (p ∷ placed) c over =
      let none : drawn job c p ≡ 0 = rw (le-ltb c (end_of job p) (over 0 p refl), and_right (nat_le p.start c) false refl) refl in
      omega (arith, sum_by-cons (drawn job c) p placed, none, power_over placed c (λ i q at. over (suc i) q at))

  -- what fits beside more tests fits beside fewer
  pub fits_fewer : (placed more : List Placement) (test start : ℕ) → Fits job (placed ++ more) test start → Fits job placed test start
  fits_fewer placed more test start fits = record {
    apart = λ n p c at. fits.apart n p c (at_left placed more n p at);
    power = λ c active. if_fewer job.power (power_at job placed c + power_of job test (c - start)) (power_at job (placed ++ more) c + power_of job test (c - start)) (omega (arith, sum_by-append (drawn job c) placed more)) (fits.power c active);
    after = λ n p at. fits.after n p (at_left placed more n p at);
  }

  -- a test fits after all others
  pub fits_at_last : (placed : List Placement) (test : ℕ) → IsSoundJob job → test < length job.tests → Fits job placed test (last_end job placed)
  fits_at_last placed test sound inside = record {
    apart = (λ n p c at clash active active'. let last = le-greatest_at (end_of job) placed n p at in omega (arith, last, active.1, active'.0));
    power = (λ c active. if_some job.power (λ most. power_at job placed c + power_of job test (c - last_end job placed) ≤ most) (λ most is.
        let own = within_limit most (c - last_end job placed) 0 (test_at job test).steps (omega arith) (from_some job.power (λ most. All (λ (s : ℕ × ℕ). s.1 ≤ most) (test_at job test).steps) most (sound.tests test no_test inside).within is) in
        omega (arith, power_over placed c (λ i p at. let last = le-greatest_at (end_of job) placed i p at in omega (arith, last, active.0)), own)));
    after = (λ n p at before. le-greatest_at (end_of job) placed n p at);
  }

  pub last_push : (placed : List Placement) (p : Placement) → last_end job (placed ++ p ∷ []) ≡ max (last_end job placed) (end_of job p)
  last_push [] p = omega arith
  last_push (q ∷ placed) p = let ih = last_push placed p in omega arith

module _ (job : JobValue) (placed : List Placement) (sound : IsSoundJob job) (are : AreTests job.tests placed) (list : IsListSchedule job placed) where
  short_front : (n : ℕ) → n ≤ length placed → last_end job (take n placed) ≤ sum_by (λ (p : Placement). cycles_of job p.test) (take n placed)
  short_front zero le = omega arith
  short_front (suc n) le =
      let p = get_or placed n no_placement in
      let at = slice_get-get_or placed n no_placement (omega arith) in
      let ih = short_front n (omega arith) in
      let start = (list n p at).least (last_end job (take n placed)) (fits_at_last job (take n placed) p.test sound (are.inside n p at)) in
      let end = last_push job (take n placed) p in
      let sum = sum_by_push (λ (q : Placement). cycles_of job q.test) (take n placed) p in
      subst (λ v. last_end job v ≤ sum_by (λ (q : Placement). cycles_of job q.test) v) (sym (one_more placed n (omega arith))) (omega arith)

  pub short_list : last_end job placed ≤ sum_by (λ (x : TestValue). x.cycles) job.tests
  short_list =
      let short = rw (take_all (length placed) placed (omega arith)) at (short_front (length placed) (omega arith)) in
      let all = sum_of_placed (λ (x : TestValue). x.cycles) refl placed job.tests are in
      omega arith

pub next_list : (job : JobValue) (placed : List Placement) (test start : ℕ) → IsListSchedule job placed → IsEarliest job placed test start → IsListSchedule job (placed ++ at_start test start ∷ [])
next_list job placed test start list here = each_push (λ earlier p. IsEarliest job earlier p.test p.start) placed (at_start test start) list here

push_tests : (tests : List TestValue) (placed : List Placement) (test start : ℕ) → AreTests tests placed → test < length tests → is_placed placed test ≡ false → AreTests tests (placed ++ at_start test start ∷ [])
push_tests tests placed test start are inside new = record {
  inside = (λ i p at. elim (from_append placed (at_start test start ∷ []) i p at) [ inl old ↦ are.inside i p old | inr last ↦ last_inside last.0 p last.2 ]);
  differ = (λ i j p q less at at' same. elim (from_append placed (at_start test start ∷ []) i p at) [
    | inl old ↦ elim (from_append placed (at_start test start ∷ []) j q at') [
      | inl old' ↦ are.differ i j p q less old old' same
      | inr last ↦ not_placed placed test i p new old (same ∙ last_test last.0 q last.2)
    ]
    | inr first ↦ elim (from_append placed (at_start test start ∷ []) j q at') [
      | inl old' ↦ absurd (let within = slice_get_within placed j q old' in omega (arith, first.1, within))
      | inr last ↦ absurd (let a = last_zero first.0 p first.2 in let b = last_zero last.0 q last.2 in omega (arith, first.1, last.1, a, b))
    ]
  ]);
}
  where
    last_test : (j : ℕ) (q : Placement) → slice_get (at_start test start ∷ []) j ≡ Some q → q.test ≡ test
    last_test zero q at = let same : at_start test start ≡ q = cc in sym (ap (λ (v : Placement). v.test) same)
    last_test (suc j) q at = absurd cc

    last_zero : (j : ℕ) (q : Placement) → slice_get (at_start test start ∷ []) j ≡ Some q → j ≡ 0
    last_zero zero q at = refl
    last_zero (suc j) q at = absurd cc

    last_inside : (i : ℕ) (p : Placement) → slice_get (at_start test start ∷ []) i ≡ Some p → p.test < length tests
    last_inside i p at = rw (last_test i p at) inside

-- the least start of one test more leaves it time to end
pub fits_short : (t : TableValue) (test start : ℕ) → IsSoundTable t → IsListSchedule t.job t.placed → test < length t.job.tests → is_placed t.placed test ≡ false → IsEarliest t.job t.placed test start → start + cycles_of t.job test ≤ 10 ^ 18
fits_short t test start sound list inside new here =
    let more = short_list t.job (t.placed ++ at_start test start ∷ []) sound.job (push_tests t.job.tests t.placed test start (sound_tests t sound) inside new) (next_list t.job t.placed test start list here) in
    let end = last_push t.job t.placed (at_start test start) in
    let short = sound.job.short in
    omega arith
