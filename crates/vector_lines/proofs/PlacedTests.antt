-- The lanes of all live tests, one after another: test by test, and module by module.
use Rattle.std.proofs.Common.{◌≡◌, ℕ, zero, suc, ◌+◌, ◌≤◌, ◌⊎◌, true, false, Some, List, [], ◌∷◌, ◌++◌, length, map, take, refl, ap, sym, subst, ◌∙◌, arith, inl, inr, append_assoc, slice_get, filter}
use Rattle.std.proofs.lemmas.List.{append-nil, length-append, map-append, take_more, take_all}
use Rattle.std.proofs.lemmas.List.Elements.{filter-append}
use Rattle.std.proofs.lemmas.Option.{slice_get_within, get_or_from_slice_get, same_Some}
use Rattle.soc_model.specs.declared.Test.{Test}
use Rattle.soc_model.specs.Chips.{ModuleValue, SocValue, LiveTest, is_live, live_of, live_from}
use Rattle.plan_model.specs.Plans.{PlanValue, PlannedTest, planned, planned_test}
use Rattle.plan_model.proofs.Lists.{from_append}
use Rattle.live_tests.proofs.Placing.{the_live}
use Rattle.vector_lines.specs.Lanes.{AreLanes}
use Rattle.vector_lines.specs.Placed.{planned_in}
use Rattle.vector_lines.specs.declared.lane.Lane.{Lane}

module _ {Is : PlannedTest → Lane → Type 0} {lanes new : List Lane} (l : Lane) (pushed : new ≡ lanes ++ l ∷ []) where
  new_more : {tests : List PlannedTest} (t : PlannedTest) → AreLanes Is tests lanes → Is t l → AreLanes Is (tests ++ t ∷ []) new
  new_more {tests} t are is = subst (AreLanes Is (tests ++ t ∷ [])) (sym pushed) (record {
    long = length-append lanes (l ∷ []) ∙ ap (λ n. n + 1) are.long ∙ sym (length-append tests (t ∷ []));
    lane = λ i u k at there. either i u k (from_append tests (t ∷ []) i u at) (from_append lanes (l ∷ []) i k there);
  })
    where
      long : length lanes ≡ length tests
      long = are.long

      either : (i : ℕ) (u : PlannedTest) (k : Lane) → (slice_get tests i ≡ Some u) ⊎ ((j : ℕ) × (i ≡ length tests + j) × (slice_get (t ∷ []) j ≡ Some u)) →
          (slice_get lanes i ≡ Some k) ⊎ ((j : ℕ) × (i ≡ length lanes + j) × (slice_get (l ∷ []) j ≡ Some k)) → Is u k
      either i u k (inl a) (inl b) = are.lane i u k a b
      either i u k (inl a) (inr b) = absurd (let within = slice_get_within tests i u a in let past = b.1 in omega (arith, long))
      either i u k (inr a) (inl b) = absurd (let within = slice_get_within lanes i k b in let past = a.1 in omega (arith, long))
      either i u k (inr a) (inr b) = last u k a.0 b.0 a.2 b.2 where
        last : (u : PlannedTest) (k : Lane) (x y : ℕ) → slice_get (t ∷ []) x ≡ Some u → slice_get (l ∷ []) y ≡ Some k → Is u k
        last u k zero zero e f = let a : t ≡ u = same_Some _ _ e in let b : l ≡ k = same_Some _ _ f in subst (λ u. Is u k) a (subst (Is t) b is)
        last u k (suc x) y e f = absurd cc
        last u k zero (suc y) e f = absurd cc

  -- ---- test by test

  pub live_more : (plan : PlanValue) (place : ℕ) (m : ModuleValue) (t : Test) {done : List PlannedTest} → is_live t ≡ true → AreLanes Is done lanes →
      Is (planned_test plan place m t) l → AreLanes Is (done ++ planned_in plan place m (t ∷ [])) new
  live_more plan place m t live are is = rw live (new_more (planned_test plan place m t) are is)

module _ (plan : PlanValue) (place : ℕ) (m : ModuleValue) (t : Test) where
  pub dead_more : {Is : PlannedTest → Lane → Type 0} {done : List PlannedTest} {lanes : List Lane} → is_live t ≡ false → AreLanes Is done lanes →
      AreLanes Is (done ++ planned_in plan place m (t ∷ [])) lanes
  dead_more {done} dead are = rw (dead, append-nil done) are

  tests_more : (ts : List Test) (k : ℕ) → slice_get ts k ≡ Some t →
      planned_in plan place m (take (k + 1) ts) ≡ planned_in plan place m (take k ts) ++ planned_in plan place m (t ∷ [])
  tests_more ts k at =
      ap (planned_in plan place m) (take_more ts k t (slice_get_within ts k t at) ∙ ap (λ u. take k ts ++ u ∷ []) (get_or_from_slice_get ts k t t at))
      ∙ ap (map (planned_test plan place m)) (filter-append is_live (take k ts) (t ∷ [])) ∙ map-append (planned_test plan place m) (filter is_live (take k ts)) (filter is_live (t ∷ []))

pub no_tests : {Is : PlannedTest → Lane → Type 0} {done : List PlannedTest} {lanes : List Lane} → AreLanes Is done lanes →
    AreLanes Is (done ++ []) lanes
no_tests {done} are = rw (append-nil done) are

module _ {Is : PlannedTest → Lane → Type 0} (plan : PlanValue) (place : ℕ) (m : ModuleValue) (ts : List Test) (k : ℕ) (done : List PlannedTest)
    {lanes : List Lane} where
  pub next_test : {t : Test} → slice_get ts k ≡ Some t →
      AreLanes Is ((done ++ planned_in plan place m (take k ts)) ++ planned_in plan place m (t ∷ [])) lanes →
      AreLanes Is (done ++ planned_in plan place m (take (k + 1) ts)) lanes
  next_test {t} at are =
      subst (λ v. AreLanes Is v lanes) (append_assoc done (planned_in plan place m (take k ts)) (planned_in plan place m (t ∷ [])) ∙ ap (λ v. done ++ v) (sym (tests_more plan place m t ts k at))) are

  pub all_tests : length ts ≤ k → AreLanes Is (done ++ planned_in plan place m (take k ts)) lanes →
      AreLanes Is (done ++ planned_in plan place m ts) lanes
  all_tests all are = subst (λ ts. AreLanes Is (done ++ planned_in plan place m ts) lanes) (take_all k ts all) are

-- ---- module by module

-- the planned tests of the first modules
abbrev pub planned_from : PlanValue → List ModuleValue → ℕ → List PlannedTest
planned_from plan ms k = map (λ (l : LiveTest). planned_test plan l.place l.core l.test) (live_from 0 (take k ms))

from_more : (base : ℕ) (ms : List ModuleValue) (k : ℕ) {m : ModuleValue} → slice_get ms k ≡ Some m →
    live_from base (take (suc k) ms) ≡ live_from base (take k ms) ++ live_of (base + k) m
unfolding live_from
from_more base [] k at = absurd cc
from_more base (x ∷ ms) zero {m} at =
    let same = same_Some _ _ at in
    let number : base + 0 ≡ base = omega arith in
    rw (same, number) (append-nil (live_of base m))
from_more base (x ∷ ms) (suc k) {m} at =
    let number : base + 1 + k ≡ base + suc k = omega arith in
    rw (from_more (base + 1) ms k at, number) (sym (append_assoc (live_of base x) (live_from (base + 1) (take k ms)) (live_of (base + suc k) m)))

of_module : (plan : PlanValue) (k : ℕ) (m : ModuleValue) (ts : List Test) → map (λ (l : LiveTest). planned_test plan l.place l.core l.test) (map (the_live k m) ts) ≡ map (planned_test plan k m) ts
of_module plan k m [] = refl
of_module plan k m (t ∷ ts) = ap (λ v. planned_test plan k m t ∷ v) (of_module plan k m ts)

module _ (Is : PlannedTest → Lane → Type 0) (plan : PlanValue) {lanes : List Lane} where
  pub no_modules : (ms : List ModuleValue) → lanes ≡ [] → AreLanes Is (planned_from plan ms 0) lanes
  unfolding live_from
  no_modules ms none = rw none (record { long = refl; lane = λ i t l at there. absurd cc })

  pub modules_more : (ms : List ModuleValue) (k : ℕ) {m : ModuleValue} → slice_get ms k ≡ Some m →
      AreLanes Is (planned_from plan ms k ++ planned_in plan k m m.tests) lanes → AreLanes Is (planned_from plan ms (k + 1)) lanes
  modules_more ms k {m} at are =
      let next : k + 1 ≡ suc k = omega arith in
      let zero' : 0 + k ≡ k = omega arith in
      let whole : planned_from plan ms (suc k) ≡ planned_from plan ms k ++ planned_in plan k m m.tests =
      ap (map (λ (l : LiveTest). planned_test plan l.place l.core l.test)) (from_more 0 ms k at ∙ rw zero' refl) ∙ map-append (λ (l : LiveTest). planned_test plan l.place l.core l.test) (live_from 0 (take k ms)) (live_of k m)
      ∙ ap (λ v. planned_from plan ms k ++ v) (of_module plan k m (filter is_live m.tests)) in
      rw (next, whole) are

  pub all_modules : (soc : SocValue) (k : ℕ) → length soc.modules ≤ k → AreLanes Is (planned_from plan soc.modules k) lanes →
      AreLanes Is (planned soc plan) lanes
  unfolding planned
  all_modules soc k all are = subst (λ ms. AreLanes Is (map (λ (l : LiveTest). planned_test plan l.place l.core l.test) (live_from 0 ms)) lanes) (take_all k soc.modules all) are
