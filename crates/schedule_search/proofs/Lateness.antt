-- Tests that aren't placed, from the longest on, and whether one of them ends late.
use Rattle.std.proofs.Common.{◌≡◌, inl, inr, ℕ, ◌+◌, ◌-◌, ◌<◌, ◌≤◌, Bool, true, false, Option, Some, None, List, [], ◌∷◌, ◌++◌, length, map, refl, sym, ◌∙◌, ap, subst, arith, slice_get, slice_index_or, nat_eq, ◌||◌, IfSome, Contains, filter}
use Rattle.std.specs.List.{list_any}
use Rattle.std.proofs.lemmas.Bool.{cases_order, cases_Bool}
use Rattle.std.proofs.lemmas.Option.{slice_get_within, slice_get-map}
use Rattle.std.proofs.lemmas.List.{append-nil}
use Rattle.std.proofs.lemmas.List.Elements.{filter-append}
use Rattle.std.proofs.lemmas.List.Folds.{list_any-append}
use Rattle.plan_model.proofs.Lists.{at_contains}
use Rattle.resource_table.specs.declared.Placement.{Placement}
use Rattle.resource_table.specs.Jobs.{JobValue, cycles_of, Precedes}
use Rattle.resource_table.specs.Schedules.{TableValue, precedes, ready_at, is_placed, last_end}
use Rattle.resource_table.proofs.Befores.{before_has}
use Rattle.resource_table.proofs.Ready.{ready-le-last, precedes_to}
use Rattle.live_tests.specs.declared.neighbours.Neighbours.{Neighbours}
use Rattle.resource_table.specs.Befores.{listed}
use Rattle.schedule_search.specs.declared.walk.PlacedLast.{PlacedLast}
use Rattle.schedule_search.specs.Late.{AreInTime, IsSeen, AreUnplaced}
use Rattle.schedule_search.specs.Prefixes.{turned, tests_after, AreFollowers}
use Rattle.common_lemmas.proofs.Options.{some_same}
use Rattle.common_lemmas.proofs.Lists.{contains_at}

-- the first of some tests are in time
abbrev pub AreInTimeBelow : TableValue → List ℕ → ℕ → ℕ → Type 0
AreInTimeBelow t rest upto cycles = (n test : ℕ) → n < upto → slice_get rest n ≡ Some test → ready_at t.job t.placed test + cycles_of t.job test < cycles

pub in_time_more : (t : TableValue) (rest : List ℕ) (n test cycles estimate : ℕ) → AreInTimeBelow t rest n cycles → slice_get rest n ≡ Some test → ready_at t.job t.placed test + cycles_of t.job test ≤ estimate → estimate < cycles → AreInTimeBelow t rest (n + 1) cycles
in_time_more t rest n test cycles estimate before at least less m other within at' = elim (cases_order m n) [
  | inl same ↦
      let is : other ≡ test = some_same other test (sym at' ∙ ap (slice_get rest) same ∙ at) in
      subst (λ (k : ℕ). ready_at t.job t.placed k + cycles_of t.job k < cycles) (sym is) (omega (arith, least, less))
  | inr apart ↦ elim apart [
    | inl lower ↦ before m other lower at'
    | inr higher ↦ absurd (omega (arith, within, higher))
  ]
]

pub in_time_all : (t : TableValue) (rest : List ℕ) (n cycles : ℕ) → AreUnplaced t.job t.placed rest → AreInTimeBelow t rest n cycles → length rest ≤ n → AreInTime t cycles
in_time_all t rest n cycles are before past test inside free =
    let at = are.whole test inside free in
    before at.0 test (omega (arith, slice_get_within rest at.0 test at.1, past)) at.1

-- where a test is in time that starts at the end of the last placed one, so are those that take no more cycles
pub in_time_from : (t : TableValue) (rest : List ℕ) (n test end cycles : ℕ) → AreUnplaced t.job t.placed rest → AreInTimeBelow t rest n cycles → slice_get rest n ≡ Some test → end ≡ last_end t.job t.placed → cycles_of t.job test < cycles - end → AreInTime t cycles
in_time_from t rest n test end cycles are before at ends quick other inside free =
    let there = are.whole other inside free in
    let ready = ready-le-last t.job t.placed other in
    elim (cases_order there.0 n) [
      | inl same ↦
          let is : other ≡ test = some_same other test (sym there.1 ∙ ap (slice_get rest) same ∙ at) in
          let long : cycles_of t.job other ≡ cycles_of t.job test = ap (cycles_of t.job) is in
          omega (arith, ready, long, quick, ends)
      | inr apart ↦ elim apart [
        | inl lower ↦ before there.0 other lower there.1
        | inr higher ↦ (let shorter = are.falls n there.0 test other higher at there.1 in omega (arith, ready, shorter, quick, ends))
      ]
    ]

-- ---- beside one placed test more

ready_beside : (job : JobValue) (placed : List Placement) (p : Placement) (test : ℕ) → precedes job p.test test ≡ false → ready_at job (placed ++ p ∷ []) test ≡ ready_at job placed test
ready_beside job placed p test none =
    let before : Placement → Bool = λ q. precedes job q.test test in
    let alone : filter before (p ∷ []) ≡ [] = rw none refl in
    ap (last_end job) (filter-append before placed (p ∷ []) ∙ ap (λ (l : List Placement). filter before placed ++ l) alone ∙ append-nil (filter before placed))

or_first : (a b : Bool) → (a || b) ≡ false → a ≡ false
or_first true b e = absurd cc
or_first false b e = refl

unplaced_first : (placed : List Placement) (p : Placement) (test : ℕ) → is_placed (placed ++ p ∷ []) test ≡ false → is_placed placed test ≡ false
unplaced_first placed p test new =
    let same : Placement → Bool = λ q. nat_eq q.test test in
    or_first (is_placed placed test) (list_any same (p ∷ [])) (sym (list_any-append same placed (p ∷ [])) ∙ new)

-- the tests that are left stay ready in time beside a test that precedes none of them
pub in_time_beside : (t : TableValue) (p : Placement) (cycles : ℕ) → AreInTime t cycles → ((later : ℕ) → Precedes t.job p.test later → ⊥) → AreInTime (record t { placed = t.placed ++ p ∷ [] }) cycles
in_time_beside t p cycles early none test inside new =
    let apart : precedes t.job p.test test ≡ false = elim (cases_Bool (precedes t.job p.test test)) [ inl yes' ↦ absurd (none test (precedes_to t.job p.test test yes')) | inr no' ↦ no' ] in
    let ready = ready_beside t.job t.placed p test apart in
    omega (arith, ready, early test inside (unplaced_first t.placed p test new))

-- a test that has no followers precedes none
pub precedes_none : (job : JobValue) (lists : List (List ℕ)) (test : ℕ) → AreFollowers job lists → test < length job.tests → slice_index_or lists test [] ≡ [] → (later : ℕ) → Precedes job test later → ⊥
precedes_none job lists test followers inside empty later before =
    let at = contains_at job.before (test, later) before in
    let turned_at : Contains (map turned job.before) (later, test) = at_contains (map turned job.before) at.0 (later, test) (slice_get-map turned job.before at.0 ∙ rw at.1 refl) in
    let there : Contains (tests_after test job.before) later = before_has (map turned job.before) later test turned_at in
    let none : tests_after test job.before ≡ [] = sym (followers.are test inside) ∙ empty in
    let place = contains_at (tests_after test job.before) later there in
    absurd (omega (arith, slice_get_within (tests_after test job.before) place.0 later place.1, ap length none))

empty_list : (tests : List ℕ) → length tests ≡ 0 → tests ≡ []
empty_list [] none = refl
empty_list (t ∷ tests) none = absurd cc

-- a test whose list that was read is empty precedes none
pub read_none : (job : JobValue) (lists : List Neighbours) (lists' : List Neighbours) (test : ℕ) (after : List ℕ) → AreFollowers job (map listed lists) → test < length job.tests → lists' ≡ lists → after ≡ slice_index_or (map listed lists') test [] → length after ≡ 0 →
    (later : ℕ) → Precedes job test later → ⊥
read_none job lists lists' test after followers inside same is none =
    precedes_none job (map listed lists) test followers inside (ap (λ (l : List Neighbours). slice_index_or (map listed l) test []) (sym same) ∙ sym is ∙ empty_list after none)

-- what is seen beside a test that is placed
pub seen_more : (t more : TableValue) (job : JobValue) (p : Placement) (cycles : ℕ) (seen : Option PlacedLast) → t.job ≡ job → more ≡ record t { placed = t.placed ++ p ∷ [] } → p.test < length job.tests → AreInTime t cycles →
    IfSome seen (λ s. s ≡ record { test = p.test; cycles = cycles }) → IfSome seen (λ s. (later : ℕ) → Precedes job p.test later → ⊥) → IfSome seen (IsSeen more)
seen_more t more job p cycles None same grown inside early is none = tt
seen_more t more job p cycles (Some s) same grown inside early is none =
    subst (λ (v : TableValue). IsSeen v s) (sym grown) (subst (IsSeen (record t { placed = t.placed ++ p ∷ [] })) (sym is) (record {
      in_job = subst (λ (j : JobValue). p.test < length j.tests) (sym same) inside;
      in_time = in_time_beside t p cycles early (subst (λ (j : JobValue). (later : ℕ) → Precedes j p.test later → ⊥) (sym same) none);
    }))
