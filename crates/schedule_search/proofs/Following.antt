-- Whether a test may follow a prefix, and whether it is ready.
use Rattle.std.proofs.Common.{◌≡◌, inl, inr, ℕ, zero, suc, ◌<◌, Bool, true, false, not, true≢false, Some, List, [], ◌∷◌, length, get_or, take, map, refl, sym, ◌∙◌, ap, slice_get, nat_eq, ◌||◌, Contains}
use Rattle.std.specs.List.{list_all}
use Rattle.std.proofs.lemmas.Bool.{cases_Bool, eqb-true, eq-eqb, and_parts, and_from}
use Rattle.std.proofs.lemmas.List.Elements.{All-contains}
use Rattle.std.proofs.lemmas.List.Sums.{AllPass-from_list_all, list_all-from_AllPass}
use Rattle.plan_model.proofs.Lists.{at_contains, any_from}
use Rattle.resource_table.specs.declared.Placement.{Placement}
use Rattle.resource_table.specs.Jobs.{JobValue}
use Rattle.resource_table.specs.Schedules.{is_placed}
use Rattle.schedule_search.specs.Orders.{IsReady}
use Rattle.resource_table.specs.Befores.{tests_before}
use Rattle.schedule_search.specs.Walks.{is_in, may_follow}
use Rattle.resource_table.proofs.Befores.{before_from, before_has}
use Rattle.schedule_search.proofs.Predecessors.{at_place}
use Rattle.common_lemmas.proofs.Tests.{not_true}
use Rattle.common_lemmas.proofs.Lists.{contains_at, any_at}

-- ---- which tests are placed

pub in_placed : (placed : List Placement) (test : ℕ) → is_in (map (λ (p : Placement). p.test) placed) test ≡ is_placed placed test
in_placed [] test = refl
in_placed (p ∷ placed) test = ap (λ b. nat_eq p.test test || b) (in_placed placed test)

pub unplaced_in : (placed : List Placement) (tests : List ℕ) (test : ℕ) → map (λ (p : Placement). p.test) placed ≡ tests → is_in tests test ≡ false → is_placed placed test ≡ false
unplaced_in placed tests test is new = sym (in_placed placed test) ∙ ap (λ (l : List ℕ). is_in l test) is ∙ new

-- ---- ready tests

pub in_from : (tests : List ℕ) (test : ℕ) → Contains tests test → is_in tests test ≡ true
in_from tests test there = let at = contains_at tests test there in any_from (λ (other : ℕ). nat_eq other test) tests at.0 test at.1 (eq-eqb test test refl)

pub in_to : (tests : List ℕ) (test : ℕ) → is_in tests test ≡ true → Contains tests test
in_to tests test is =
    let a = any_at (λ (other : ℕ). nat_eq other test) tests is in
    at_contains tests a.0 test (a.2 ∙ ap Some (eqb-true a.1 test a.3))

pub not_in : (tests : List ℕ) (test : ℕ) → (Contains tests test → ⊥) → is_in tests test ≡ false
not_in tests test new = elim (cases_Bool (is_in tests test)) [ inl yes' ↦ absurd (new (in_to tests test yes')) | inr no' ↦ no' ]

true_not : (b : Bool) → (b ≡ true → ⊥) → not b ≡ true
true_not true h = absurd (h refl)
true_not false h = refl

pub ready_from : (job : JobValue) (prefix : List ℕ) (test : ℕ) → test < length job.tests → may_follow job prefix test ≡ true → IsReady job prefix test
ready_from job prefix test within is =
    let parts = and_parts (not (is_in prefix test)) (list_all (is_in prefix) (tests_before test job.before)) is in
    let all = AllPass-from_list_all (is_in prefix) (tests_before test job.before) parts.1 in
    record {
      in_job = within;
      new = λ there. true≢false (sym (in_from prefix test there) ∙ not_true (is_in prefix test) parts.0);
      after = λ earlier before. in_to prefix earlier (All-contains (λ t. is_in prefix t ≡ true) (tests_before test job.before) earlier all (before_has job.before earlier test before));
    }

pub ready_to : (job : JobValue) (prefix : List ℕ) (test : ℕ) → IsReady job prefix test → may_follow job prefix test ≡ true
ready_to job prefix test ready = and_from (not (is_in prefix test)) (list_all (is_in prefix) (tests_before test job.before))
    (true_not (is_in prefix test) (λ is. ready.new (in_to prefix test is)))
    (list_all-from_AllPass (is_in prefix) (tests_before test job.before) (λ k d less.
    in_from prefix (get_or (tests_before test job.before) k d) (ready.after (get_or (tests_before test job.before) k d) (before_from job.before (get_or (tests_before test job.before) k d) test (at_place (tests_before test job.before) k d less)))))

-- what stands in a front of a list stands in the list
pub in_front : (xs : List ℕ) (n i x : ℕ) → slice_get (take n xs) i ≡ Some x → slice_get xs i ≡ Some x
in_front [] zero i x at = at
in_front [] (suc n) i x at = at
in_front (y ∷ xs) zero i x at = absurd cc
in_front (y ∷ xs) (suc n) zero x at = at
in_front (y ∷ xs) (suc n) (suc i) x at = in_front xs n i x at
