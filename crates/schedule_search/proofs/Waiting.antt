-- The tests that wait for none outside a prefix, by how many of their precedences are missing.
use Rattle.std.proofs.Common.{◌≡◌, inl, inr, ℕ, ◌+◌, ◌<◌, ◌≤◌, Bool, true, false, not, Some, List, [], ◌∷◌, ◌++◌, length, get_or, set, take, refl, sym, ◌∙◌, ap, subst, arith, slice_get, slice_index_or, nat_eq, ◌||◌, ◌&&◌, Contains, remove}
use Rattle.std.proofs.lemmas.Bool.{cases_Bool, cases_eq, eqb-true, eq-eqb, ne_eqb}
use Rattle.std.proofs.lemmas.List.Sums.{sum_by-take-le}
use Rattle.plan_model.specs.Rules.{Each}
use Rattle.plan_model.proofs.Lists.{at_contains}
use Rattle.resource_table.specs.Jobs.{JobValue, Precedes}
use Rattle.resource_table.proofs.Befores.{set_other}
use Rattle.resource_table.proofs.Placed.{each_front, each_last}
use Rattle.schedule_search.specs.Orders.{IsReady}
use Rattle.schedule_search.specs.Walks.{by_length, is_in, may_follow}
use Rattle.schedule_search.specs.Prefixes.{outside, followers, tests_after, missing_of, times_in, waits_for_none, all_free, AreApart, AreMissing, IsWithout}
use Rattle.schedule_search.proofs.Comparing.{first_in_order}
use Rattle.schedule_search.proofs.Following.{in_to, not_in, in_front}
use Rattle.schedule_search.proofs.Missing.{one_of, follows_from, follows_not, missing_less, missing_ready, times_more, one_here}
use Rattle.schedule_search.proofs.Outside.{filter_without, is_in_push, known_at, outside_has, passing_at, same_filter}
use Rattle.common_lemmas.proofs.Lists.{contains_at}

-- ---- these are the tests that may follow

pub waits_is : (job : JobValue) (path missing : List ℕ) (t : ℕ) → AreMissing job path missing → t < length job.tests → waits_for_none path missing t ≡ may_follow job path t
waits_is job path missing t are inside = elim (cases_Bool (is_in path t)) [
  | inl there ↦ rw there refl
  | inr out ↦ elim (cases_eq (missing_of job path t) 0) [
    | inl none ↦ ap (λ b. not b && nat_eq (slice_index_or missing t 0) 0) out ∙ eq-eqb (slice_index_or missing t 0) 0 (are.are t inside ∙ none) ∙ sym (follows_from job path t out none)
    | inr some ↦ ap (λ b. not b && nat_eq (slice_index_or missing t 0) 0) out ∙ ne_eqb (slice_index_or missing t 0) 0 (λ e. some (sym (are.are t inside) ∙ e)) ∙ sym (follows_not job path t some)
  ]
]

pub free_followers : (job : JobValue) (path missing : List ℕ) → AreMissing job path missing → all_free job path missing ≡ followers job path
free_followers job path missing are = same_filter (waits_for_none path missing) (may_follow job path) (by_length job) (λ k t at. waits_is job path missing t are (known_at job k t at))

pub followers_at : (job : JobValue) (path : List ℕ) (k x : ℕ) → slice_get (followers job path) k ≡ Some x → (x < length job.tests) × (may_follow job path x ≡ true)
followers_at job path k x at = passing_at job (may_follow job path) k x at

-- ---- one test's count changes

-- two lists of counts differ at one place at most
abbrev pub AreBut : (a b : List ℕ) → ℕ → Type 0
AreBut a b test = (t : ℕ) → (test ≡ t → ⊥) → slice_index_or a t 0 ≡ slice_index_or b t 0

pub set_but : (xs : List ℕ) (test v : ℕ) → AreBut (set xs test v) xs test
set_but xs test v t apart = set_other xs test t v 0 (λ e. apart (sym e))

pub but_set : (xs : List ℕ) (test v : ℕ) → AreBut xs (set xs test v) test
but_set xs test v t apart = sym (set_but xs test v t apart)

pub waits_not : (path b : List ℕ) (test : ℕ) → (slice_index_or b test 0 ≡ 0 → ⊥) → waits_for_none path b test ≡ false
waits_not path b test some = ap (λ e. not (is_in path test) && e) (ne_eqb (slice_index_or b test 0) 0 some) ∙ none (not (is_in path test))
  where
    none : (b : Bool) → (b && false) ≡ false
    none true = refl
    none false = refl

pub waits_so : (path a : List ℕ) (test : ℕ) → is_in path test ≡ false → slice_index_or a test 0 ≡ 0 → waits_for_none path a test ≡ true
waits_so path a test out none = ap (λ b. not b && nat_eq (slice_index_or a test 0) 0) out ∙ eq-eqb (slice_index_or a test 0) 0 none

pub free_without : (path a b : List ℕ) (test : ℕ) → AreBut a b test → (slice_index_or b test 0 ≡ 0 → ⊥) → IsWithout (waits_for_none path a) (waits_for_none path b) test
free_without path a b test but some t = elim (cases_eq test t) [
  | inl same ↦
      let out : waits_for_none path b t ≡ false = subst (λ (n : ℕ). waits_for_none path b n ≡ false) same (waits_not path b test some) in
      out ∙ sym (ap (λ e. waits_for_none path a t && not e) (eq-eqb test t same) ∙ none (waits_for_none path a t))
  | inr apart ↦ ap (λ n. not (is_in path t) && nat_eq n 0) (sym (but t apart)) ∙ sym (ap (λ e. waits_for_none path a t && not e) (ne_eqb test t apart) ∙ also (waits_for_none path a t))
]
  where
    none : (b : Bool) → (b && false) ≡ false
    none true = refl
    none false = refl

    also : (b : Bool) → (b && true) ≡ b
    also true = refl
    also false = refl

pub free_same : (job : JobValue) (path a b : List ℕ) (test : ℕ) → AreBut a b test → (slice_index_or a test 0 ≡ 0 → ⊥) → (slice_index_or b test 0 ≡ 0 → ⊥) → all_free job path a ≡ all_free job path b
free_same job path a b test but some some' = same_filter (waits_for_none path a) (waits_for_none path b) (by_length job) (λ k t at. elim (cases_eq test t) [
  | inl same ↦ subst (λ (n : ℕ). waits_for_none path a n ≡ waits_for_none path b n) same (waits_not path a test some ∙ sym (waits_not path b test some'))
  | inr apart ↦ ap (λ n. not (is_in path t) && nat_eq n 0) (but t apart)
])

-- ---- one test more in the prefix

push_waits : (path missing : List ℕ) (x : ℕ) → IsWithout (waits_for_none path missing) (waits_for_none (path ++ x ∷ []) missing) x
push_waits path missing x t = ap (λ b. not b && nat_eq (slice_index_or missing t 0) 0) (is_in_push path x t) ∙ parts (is_in path t) (nat_eq x t) (nat_eq (slice_index_or missing t 0) 0)
  where
    parts : (a b d : Bool) → (not (a || b) && d) ≡ ((not a && d) && not b)
    parts true b d = refl
    parts false true true = refl
    parts false true false = refl
    parts false false true = refl
    parts false false false = refl

pub push_free : (job : JobValue) (path missing : List ℕ) (place x : ℕ) → slice_get (all_free job path missing) place ≡ Some x → all_free job (path ++ x ∷ []) missing ≡ remove (all_free job path missing) place
push_free job path missing place x at = filter_without job (waits_for_none path missing) (waits_for_none (path ++ x ∷ []) missing) x (by_length job) place (push_waits path missing x) (first_in_order job (length job.tests)) at

-- none of a prefix that is in order comes after its last test
pub none_after : (job : JobValue) (path : List ℕ) (x : ℕ) → Each (IsReady job) (path ++ x ∷ []) → AreApart (path ++ x ∷ []) (tests_after x job.before)
none_after job path x ready n there =
    let last = each_last (IsReady job) path x ready in
    let less = missing_less job path x n (not_in path x last.new) in
    let none : missing_of job path n ≡ 0 = missing_ready job path n (after_all (is_in path n) (nat_eq x n) (sym (is_in_push path x n) ∙ there) refl refl) in
    omega (arith, less, none)
  where
    after_all : (a b : Bool) → (a || b) ≡ true → is_in path n ≡ a → nat_eq x n ≡ b → (earlier : ℕ) → Precedes job earlier n → Contains path earlier
    after_all true b some in_path same earlier before =
        let k = contains_at path n (in_to path n in_path) in
        let at = contains_at (take k.0 path) earlier ((each_front (IsReady job) path (x ∷ []) ready k.0 n k.1).after earlier before) in
        at_contains path at.0 earlier (in_front path k.0 at.0 earlier at.1)
    after_all false true some in_path same earlier before =
        (each_last (IsReady job) path x ready).after earlier (subst (λ (m : ℕ). Precedes job earlier m) (sym (eqb-true x n same)) before)
    after_all false false some in_path same earlier before = absurd cc

-- a test of a list isn't in a prefix from which it is apart
pub apart_one : (prefix tests : List ℕ) (i test : ℕ) → AreApart prefix tests → i < length tests → test ≡ get_or tests i 0 → is_in prefix test ≡ false
apart_one prefix tests i test apart within is = elim (cases_Bool (is_in prefix test)) [
  | inr no' ↦ no'
  | inl there ↦
      let none = apart test there in
      let more = times_more tests i test within in
      let one : one_of test (get_or tests i 0) ≡ 1 = one_here test (get_or tests i 0) (sym is) in
      let most : times_in (take (i + 1) tests) test ≤ times_in tests test = sum_by-take-le (one_of test) tests (i + 1) in
      absurd (omega (arith, none, more, one, most))
]

-- a test that may follow is outside
pub follower_left : (job : JobValue) (path : List ℕ) (k x : ℕ) → slice_get (followers job path) k ≡ Some x → (n : ℕ) × (slice_get (outside job path) n ≡ Some x)
follower_left job path k x at =
    let f = followers_at job path k x at in
    outside_has job path x f.0 (first (is_in path x) _ f.1)
  where
    first : (a b : Bool) → (not a && b) ≡ true → a ≡ false
    first true b e = absurd cc
    first false b e = refl
