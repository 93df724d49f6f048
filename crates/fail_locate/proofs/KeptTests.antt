-- The tests over the wires that are kept, one after another.
use Rattle.std.proofs.Common.{◌≡◌, ℕ, zero, suc, ◌+◌, ◌≤◌, ◌⊎◌, true, false, Some, List, [], ◌∷◌, ◌++◌, length, map, take, refl, ap, sym, subst, ◌∙◌, arith, inl, inr, append_assoc, slice_get, filter}
use Rattle.std.specs.List.Sorted.{IsPermutation}
use Rattle.std.proofs.lemmas.List.{append-nil, take_more, take_all}
use Rattle.std.proofs.lemmas.List.Sorted.{Contains-permutation, IsPermutation-sym}
use Rattle.std.proofs.lemmas.Option.{slice_get_within, get_or_from_slice_get, same_Some}
use Rattle.std.proofs.lemmas.Bool.{cases_Bool, and_parts, false≢true}
use Rattle.soc_model.specs.declared.Test.{Test}
use Rattle.soc_model.specs.Chips.{ModuleValue, SocValue, LiveTest, is_live, live_of, live_from}
use Rattle.soc_model.specs.Modes.{is_tam}
use Rattle.plan_model.specs.Plans.{PlanValue, PlannedTest, planned, planned_test}
use Rattle.plan_model.proofs.Lists.{from_append, in_append_right, at_contains}
use Rattle.plan_model.proofs.TestsInGoodPlans.{planned_tam}
use Rattle.fail_locate.specs.declared.wired.WiredTest.{WiredTest}
use Rattle.fail_locate.specs.Wired.{IsWired, IsPlanned, IsKept, AreWired, placed_tests}
use Rattle.common_lemmas.proofs.Lists.{map_append, only_one, at_left, contains_at}

planned_more : (soc : SocValue) (plan : PlanValue) (done : List PlannedTest) (u : PlannedTest) (t : WiredTest) → IsPlanned soc plan done t → IsPlanned soc plan (done ++ u ∷ []) t
planned_more soc plan done u t is = record { place = is.place; test = is.test; at = at_left done (u ∷ []) is.place is.test is.at; wired = is.wired }

planned_last : (soc : SocValue) (plan : PlanValue) (done : List PlannedTest) (u : PlannedTest) (t : WiredTest) → IsWired soc plan u t → IsPlanned soc plan (done ++ u ∷ []) t
planned_last soc plan done u t is =
    let r = in_append_right done (u ∷ []) 0 u refl in
    record { place = r.0; test = u; at = r.1; wired = is }

kept_more : (tests : List WiredTest) (t : WiredTest) (u : PlannedTest) → IsKept tests u → IsKept (tests ++ t ∷ []) u
kept_more tests t u is = record { place = is.place; test = is.test; at = at_left tests (t ∷ []) is.place is.test is.at; bus = is.bus; start = is.start }

kept_last : (soc : SocValue) (plan : PlanValue) (tests : List WiredTest) (t : WiredTest) (u : PlannedTest) → IsWired soc plan u t → IsKept (tests ++ t ∷ []) u
kept_last soc plan tests t u is =
    let r = in_append_right tests (t ∷ []) 0 t refl in
    record { place = r.0; test = t; at = r.1; bus = is.bus; start = is.start }

-- a test over the wires
wired_more : (soc : SocValue) (plan : PlanValue) (done : List PlannedTest) (tests new : List WiredTest) (u : PlannedTest) (t : WiredTest) → AreWired soc plan done tests → new ≡ tests ++ t ∷ [] → IsWired soc plan u t → AreWired soc plan (done ++ u ∷ []) new
wired_more soc plan done tests new u t are pushed is = subst (AreWired soc plan (done ++ u ∷ [])) (sym pushed) (record {
  planned = λ n v at. elim (from_append tests (t ∷ []) n v at) [
    | inl old ↦ planned_more soc plan done u v (are.planned n v old)
    | inr last ↦ subst (IsPlanned soc plan (done ++ u ∷ [])) (only_one t v last.0 last.2) (planned_last soc plan done u t is)
  ];
  kept = λ i v at tam. elim (from_append done (u ∷ []) i v at) [
    | inl old ↦ kept_more tests t v (are.kept i v old tam)
    | inr last ↦ subst (IsKept (tests ++ t ∷ [])) (only_one u v last.0 last.2) (kept_last soc plan tests t u is)
  ];
})

-- a self test
self_more : (soc : SocValue) (plan : PlanValue) (done : List PlannedTest) (tests : List WiredTest) (u : PlannedTest) → AreWired soc plan done tests → u.tam ≡ false → AreWired soc plan (done ++ u ∷ []) tests
self_more soc plan done tests u are self = record {
  planned = λ n v at. planned_more soc plan done u v (are.planned n v at);
  kept = λ i v at tam. elim (from_append done (u ∷ []) i v at) [
    | inl old ↦ are.kept i v old tam
    | inr last ↦ absurd (false≢true (sym self ∙ ap (λ (p : PlannedTest). p.tam) (only_one u v last.0 last.2) ∙ tam))
  ];
}

pub wired_test : (soc : SocValue) (plan : PlanValue) (place : ℕ) (m : ModuleValue) (t : Test) (done : List PlannedTest) (tests new : List WiredTest) (w : WiredTest) → is_tam t ≡ true → AreWired soc plan done tests → new ≡ tests ++ w ∷ [] → IsWired soc plan (planned_test plan place m t) w →
    AreWired soc plan (done ++ placed_tests plan place m (t ∷ [])) new
wired_test soc plan place m t done tests new w tam are pushed is =
    let live : is_live t ≡ true = (and_parts (is_live t) t.tam tam).0 in
    rw live (wired_more soc plan done tests new (planned_test plan place m t) w are pushed is)

pub other_test : (soc : SocValue) (plan : PlanValue) (place : ℕ) (m : ModuleValue) (t : Test) (done : List PlannedTest) (tests : List WiredTest) → is_tam t ≡ false → AreWired soc plan done tests → AreWired soc plan (done ++ placed_tests plan place m (t ∷ [])) tests
other_test soc plan place m t done tests not are = elim (cases_Bool (is_live t)) [
  | inr dead ↦ rw (dead, append-nil done) are
  | inl live ↦ rw live (self_more soc plan done tests (planned_test plan place m t) are (planned_tam plan place m t ∙ self live))
]
  where
    self : is_live t ≡ true → t.tam ≡ false
    self live = rw live at not

filter_append : (xs ys : List Test) → filter is_live (xs ++ ys) ≡ filter is_live xs ++ filter is_live ys
filter_append [] ys = refl
filter_append (x ∷ xs) ys = go (filter_append xs ys) (cases_Bool (is_live x)) where
  go : filter is_live (xs ++ ys) ≡ filter is_live xs ++ filter is_live ys → (is_live x ≡ true) ⊎ (is_live x ≡ false) → filter is_live (x ∷ (xs ++ ys)) ≡ filter is_live (x ∷ xs) ++ filter is_live ys
  go rest (inl yes') = rw yes' (ap (λ v. x ∷ v) rest)
  go rest (inr no') = rw no' rest

pub tests_more : (plan : PlanValue) (place : ℕ) (m : ModuleValue) (ts : List Test) (k : ℕ) (t : Test) → slice_get ts k ≡ Some t → placed_tests plan place m (take (k + 1) ts) ≡ placed_tests plan place m (take k ts) ++ placed_tests plan place m (t ∷ [])
tests_more plan place m ts k t at =
    ap (placed_tests plan place m) (take_more ts k t (slice_get_within ts k t at) ∙ ap (λ u. take k ts ++ u ∷ []) (get_or_from_slice_get ts k t t at))
    ∙ ap (map (planned_test plan place m)) (filter_append (take k ts) (t ∷ [])) ∙ map_append (planned_test plan place m) (filter is_live (take k ts)) (filter is_live (t ∷ []))

pub next_test : (soc : SocValue) (plan : PlanValue) (place : ℕ) (m : ModuleValue) (ts : List Test) (k : ℕ) (t : Test) (done : List PlannedTest) (tests : List WiredTest) → slice_get ts k ≡ Some t → AreWired soc plan ((done ++ placed_tests plan place m (take k ts)) ++ placed_tests plan place m (t ∷ [])) tests →
    AreWired soc plan (done ++ placed_tests plan place m (take (k + 1) ts)) tests
next_test soc plan place m ts k t done tests at are =
    subst (λ v. AreWired soc plan v tests) (append_assoc done (placed_tests plan place m (take k ts)) (placed_tests plan place m (t ∷ [])) ∙ ap (λ v. done ++ v) (sym (tests_more plan place m ts k t at))) are

pub no_tests : (soc : SocValue) (plan : PlanValue) (done : List PlannedTest) (tests : List WiredTest) → AreWired soc plan done tests → AreWired soc plan (done ++ []) tests
no_tests soc plan done tests are = rw (append-nil done) are

pub all_tests : (soc : SocValue) (plan : PlanValue) (place : ℕ) (m : ModuleValue) (ts : List Test) (k : ℕ) (done : List PlannedTest) (tests : List WiredTest) → length ts ≤ k → AreWired soc plan (done ++ placed_tests plan place m (take k ts)) tests → AreWired soc plan (done ++ placed_tests plan place m ts) tests
all_tests soc plan place m ts k done tests all are = subst (λ ts. AreWired soc plan (done ++ placed_tests plan place m ts) tests) (take_all k ts all) are

-- ---- module by module

-- the planned tests of the first modules
abbrev pub placed_from : PlanValue → List ModuleValue → ℕ → List PlannedTest
placed_from plan ms k = map (λ (l : LiveTest). planned_test plan l.place l.core l.test) (live_from 0 (take k ms))

from_more : (base : ℕ) (ms : List ModuleValue) (k : ℕ) (m : ModuleValue) → slice_get ms k ≡ Some m → live_from base (take (suc k) ms) ≡ live_from base (take k ms) ++ live_of (base + k) m
unfolding live_from
from_more base [] k m at = absurd cc
from_more base (x ∷ ms) zero m at =
    let same : x ≡ m = same_Some _ _ at in
    let number : base + 0 ≡ base = omega arith in
    rw (same, number) (append-nil (live_of base m))
from_more base (x ∷ ms) (suc k) m at =
    let number : base + 1 + k ≡ base + suc k = omega arith in
    rw (from_more (base + 1) ms k m at, number) (sym (append_assoc (live_of base x) (live_from (base + 1) (take k ms)) (live_of (base + suc k) m)))

abbrev one_test : ℕ → ModuleValue → Test → LiveTest
one_test k m t = record { place = k; core = m; test = t }

of_module : (plan : PlanValue) (k : ℕ) (m : ModuleValue) (ts : List Test) → map (λ (l : LiveTest). planned_test plan l.place l.core l.test) (map (one_test k m) ts) ≡ map (planned_test plan k m) ts
of_module plan k m [] = refl
of_module plan k m (t ∷ ts) = ap (λ v. planned_test plan k m t ∷ v) (of_module plan k m ts)

pub modules_more : (soc : SocValue) (plan : PlanValue) (ms : List ModuleValue) (k : ℕ) (m : ModuleValue) (tests : List WiredTest) → slice_get ms k ≡ Some m → AreWired soc plan (placed_from plan ms k ++ placed_tests plan k m m.tests) tests → AreWired soc plan (placed_from plan ms (k + 1)) tests
modules_more soc plan ms k m tests at are =
    let next : k + 1 ≡ suc k = omega arith in
    let zero' : 0 + k ≡ k = omega arith in
    let whole : placed_from plan ms (suc k) ≡ placed_from plan ms k ++ placed_tests plan k m m.tests =
    ap (map (λ (l : LiveTest). planned_test plan l.place l.core l.test)) (from_more 0 ms k m at ∙ rw zero' refl) ∙ map_append (λ (l : LiveTest). planned_test plan l.place l.core l.test) (live_from 0 (take k ms)) (live_of k m)
    ∙ ap (λ v. placed_from plan ms k ++ v) (of_module plan k m (filter is_live m.tests)) in
    rw (next, whole) are

pub no_modules : (soc : SocValue) (plan : PlanValue) (ms : List ModuleValue) (tests : List WiredTest) → tests ≡ [] → AreWired soc plan (placed_from plan ms 0) tests
unfolding live_from
no_modules soc plan ms tests none = rw none (record { planned = λ n t a. absurd cc; kept = λ i u a tam. absurd cc })

pub all_modules : (soc : SocValue) (plan : PlanValue) (k : ℕ) (tests : List WiredTest) → length soc.modules ≤ k → AreWired soc plan (placed_from plan soc.modules k) tests → AreWired soc plan (planned soc plan) tests
unfolding planned
all_modules soc plan k tests all are = subst (λ ms. AreWired soc plan (map (λ (l : LiveTest). planned_test plan l.place l.core l.test) (live_from 0 ms)) tests) (take_all k soc.modules all) are

-- ---- in another order

pub in_order : (soc : SocValue) (plan : PlanValue) (done : List PlannedTest) (tests sorted : List WiredTest) → IsPermutation tests sorted → AreWired soc plan done tests → AreWired soc plan done sorted
in_order soc plan done tests sorted moved are = record {
  planned = λ n t at.
      let k = contains_at tests t (Contains-permutation sorted tests t (IsPermutation-sym tests sorted moved) (at_contains sorted n t at)) in
      are.planned k.0 t k.1;
  kept = λ i u at tam.
      let is : IsKept tests u = are.kept i u at tam in
      let k = contains_at sorted is.test (Contains-permutation tests sorted is.test moved (at_contains tests is.place is.test is.at)) in
      record { place = k.0; test = is.test; at = k.1; bus = is.bus; start = is.start };
}

-- ---- what is looked up
