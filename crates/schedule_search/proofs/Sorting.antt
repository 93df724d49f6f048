-- Some tests in the order in which they are tried: where one stands, and one more or less.
use Rattle.std.proofs.Common.{◌≡◌, inl, inr, ℕ, ◌+◌, ◌<◌, ◌≤◌, Bool, true, false, true≢false, Some, List, length, get_or, sym, ◌∙◌, ap, subst, arith, slice_get, filter, insert, remove}
use Rattle.std.proofs.lemmas.Bool.{cases_Bool, cases_order}
use Rattle.std.proofs.lemmas.List.Edits.{length-remove, get_or-remove_below, get_or-remove_above}
use Rattle.std.proofs.lemmas.Option.{slice_get-get_or, slice_get_within, get_or_from_slice_get}
use Rattle.resource_table.specs.Jobs.{JobValue}
use Rattle.schedule_search.specs.Walks.{goes_before, by_length}
use Rattle.schedule_search.specs.Prefixes.{AreSorted, IsPlaceOf, IsWithout}
use Rattle.schedule_search.proofs.Comparing.{AreInOrder, first_in_order, goes_on, goes_one_way, in_order_at}
use Rattle.schedule_search.proofs.Outside.{filter_without, insert_removed, never_itself, passing_at, passing_has, passing_order}

pub sorted_order : (job : JobValue) (tests : List ℕ) → AreSorted job tests → AreInOrder job tests
sorted_order job tests sorted = subst (AreInOrder job) (sym sorted.are) (passing_order job sorted.passes)

pub sorted_at : (job : JobValue) (tests : List ℕ) (k x : ℕ) → AreSorted job tests → slice_get tests k ≡ Some x → x < length job.tests
sorted_at job tests k x sorted at = (passing_at job sorted.passes k x (ap (λ (l : List ℕ). slice_get l k) (sym sorted.are) ∙ at)).0

pub sorted_known : (job : JobValue) (tests : List ℕ) (k d : ℕ) → AreSorted job tests → k < length tests → get_or tests k d < length job.tests
sorted_known job tests k d sorted less = sorted_at job tests k (get_or tests k d) sorted (slice_get-get_or tests k d less)

-- ---- the search for a place

pub before_more : (job : JobValue) (tests : List ℕ) (middle test : ℕ) → AreInOrder job tests → middle < length tests → goes_before job (get_or tests middle 0) test ≡ true → (k : ℕ) → k < middle + 1 → goes_before job (get_or tests k 0) test ≡ true
before_more job tests middle test order within goes k less = elim (cases_order k middle) [
  | inl same ↦ subst (λ (n : ℕ). goes_before job (get_or tests n 0) test ≡ true) (sym same) goes
  | inr apart ↦ elim apart [
    | inl lower ↦ goes_on job (get_or tests k 0) (get_or tests middle 0) test (in_order_at job tests k middle 0 order lower within) goes
    | inr higher ↦ absurd (omega (arith, less, higher))
  ]
]

pub behind_more : (job : JobValue) (tests : List ℕ) (middle test : ℕ) → AreInOrder job tests → goes_before job (get_or tests middle 0) test ≡ false → (k : ℕ) → middle ≤ k → k < length tests → goes_before job (get_or tests k 0) test ≡ false
behind_more job tests middle test order stays k from within = elim (cases_order k middle) [
  | inl same ↦ subst (λ (n : ℕ). goes_before job (get_or tests n 0) test ≡ false) (sym same) stays
  | inr apart ↦ elim apart [
    | inl lower ↦ absurd (omega (arith, lower, from))
    | inr higher ↦ elim (cases_Bool (goes_before job (get_or tests k 0) test)) [
      | inr no' ↦ no'
      | inl goes ↦ absurd (true≢false (sym (goes_on job (get_or tests middle 0) (get_or tests k 0) test (in_order_at job tests middle k 0 order higher within) goes) ∙ stays))
    ]
  ]
]

-- a test stands where the search for it ends
pub place_there : (job : JobValue) (tests : List ℕ) (test place k : ℕ) → AreInOrder job tests → IsPlaceOf job tests test place → slice_get tests k ≡ Some test → k ≡ place
place_there job tests test place k order found at =
    let is : get_or tests k 0 ≡ test = get_or_from_slice_get tests k test 0 at in
    elim (cases_order k place) [
      | inl same ↦ same
      | inr apart ↦ elim apart [
        | inl lower ↦ absurd (never_itself job test (subst (λ (n : ℕ). goes_before job n test ≡ true) is (found.before k lower)))
        | inr higher ↦
            let within : k < length tests = slice_get_within tests k test at in
            absurd (true≢false (sym (subst (λ (n : ℕ). goes_before job (get_or tests place 0) n ≡ true) is (in_order_at job tests place k 0 order higher within)) ∙ found.behind place (omega arith) (omega (arith, higher, within))))
      ]
    ]

-- and it stood where the search ends without it
place_without : (job : JobValue) (tests : List ℕ) (test place k : ℕ) → AreInOrder job tests → slice_get tests k ≡ Some test → IsPlaceOf job (remove tests k) test place → k ≡ place
place_without job tests test place k order at found =
    let within : k < length tests = slice_get_within tests k test at in
    let is : get_or tests k 0 ≡ test = get_or_from_slice_get tests k test 0 at in
    let long = length-remove tests k within in
    elim (cases_order k place) [
      | inl same ↦ same
      | inr apart ↦ elim apart [
        | inl lower ↦
            let next : k + 1 < length tests = omega (arith, lower, found.most, long) in
            let goes : goes_before job (get_or tests (k + 1) 0) test ≡ true = subst (λ (n : ℕ). goes_before job n test ≡ true) (get_or-remove_above tests k 0 k (omega arith) within) (found.before k lower) in
            let after : goes_before job test (get_or tests (k + 1) 0) ≡ true = subst (λ (n : ℕ). goes_before job n (get_or tests (k + 1) 0) ≡ true) is (in_order_at job tests k (k + 1) 0 order (omega arith) next) in
            absurd (true≢false (sym goes ∙ goes_one_way job test (get_or tests (k + 1) 0) after))
        | inr higher ↦
            let stays : goes_before job (get_or tests place 0) test ≡ false = subst (λ (n : ℕ). goes_before job n test ≡ false) (get_or-remove_below tests k 0 place higher within) (found.behind place (omega arith) (omega (arith, higher, within, long))) in
            absurd (true≢false (sym (subst (λ (n : ℕ). goes_before job (get_or tests place 0) n ≡ true) is (in_order_at job tests place k 0 order higher within)) ∙ stays))
      ]
    ]

-- ---- one more, one less

pub put_filtered : (job : JobValue) (p q : ℕ → Bool) (old new : List ℕ) (test place : ℕ) → test < length job.tests → IsPlaceOf job old test place → new ≡ insert old place test
    → IsWithout p q test → p test ≡ true → old ≡ filter q (by_length job) → new ≡ filter p (by_length job)
put_filtered job p q old new test place inside found put without passes is =
    let k = passing_has job p test inside passes in
    let less : filter q (by_length job) ≡ remove (filter p (by_length job)) k.0 = filter_without job p q test (by_length job) k.0 without (first_in_order job (length job.tests)) k.1 in
    let here : k.0 ≡ place = place_without job (filter p (by_length job)) test place k.0 (passing_order job p) k.1 (subst (λ (l : List ℕ). IsPlaceOf job l test place) (is ∙ less) found) in
    put ∙ ap (λ (l : List ℕ). insert l place test) (is ∙ less) ∙ ap (λ (n : ℕ). insert (remove (filter p (by_length job)) k.0) n test) (sym here) ∙ insert_removed (filter p (by_length job)) k.0 test k.1

pub take_filtered : (job : JobValue) (p q : ℕ → Bool) (old new : List ℕ) (test place k : ℕ) → slice_get old k ≡ Some test → IsPlaceOf job old test place → new ≡ remove old place
    → IsWithout p q test → old ≡ filter p (by_length job) → new ≡ filter q (by_length job)
take_filtered job p q old new test place k at found taken without is =
    let at' : slice_get (filter p (by_length job)) k ≡ Some test = ap (λ (l : List ℕ). slice_get l k) (sym is) ∙ at in
    let here : k ≡ place = place_there job (filter p (by_length job)) test place k (passing_order job p) (subst (λ (l : List ℕ). IsPlaceOf job l test place) is found) at' in
    taken ∙ ap (λ (l : List ℕ). remove l place) is ∙ ap (remove (filter p (by_length job))) (sym here) ∙ sym (filter_without job p q test (by_length job) k without (first_in_order job (length job.tests)) at')
