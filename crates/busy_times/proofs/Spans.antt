-- Times in the order of their starts, and timelines of them, with one time more or less.
use Rattle.std.proofs.Common.{◌≡◌, ℕ, zero, suc, ◌+◌, ◌-◌, ◌<◌, ◌≤◌, inl, inr, Option, None, Some, List, [], ◌∷◌, length, take, get_or, set, arith, refl, sym, ap, ◌∙◌, subst}
use Rattle.std.specs.{Prelude.slice_get, Prelude.vec_capacity, List.All, List.AllWithin, List.remove, List.Sorted.IsNonDecreasingBy, List.Sorted.IsPartitionPoint}
use Rattle.std.proofs.lemmas.{Bool.cases_lt, Option.slice_get_within, Option.get_or_from_slice_get}
use Rattle.std.proofs.lemmas.List.{length-set}
use Rattle.busy_times.specs.{declared.timelines.Span.Span, declared.timelines.Timeline.Timeline}
use Rattle.busy_times.specs.BusyTimes.{IsClear, IsPut, IsTaken, ArePut, AreTaken}
use Rattle.common_lemmas.proofs.Lists.{set_here, slice_at, any_default}

pub set_there : {X : Type 0} (xs : List X) (k j : ℕ) (x : X) → (k ≡ j → ⊥) → slice_get (set xs k x) j ≡ slice_get xs j
set_there [] k j x apart = refl
set_there (y ∷ xs) zero zero x apart = absurd (apart refl)
set_there (y ∷ xs) zero (suc j) x apart = refl
set_there (y ∷ xs) (suc k) zero x apart = refl
set_there (y ∷ xs) (suc k) (suc j) x apart = set_there xs k j x (λ e. apart (ap suc e))

-- without the last item
taken_last : {X : Type 0} (xs : List X) (n : ℕ) → length xs ≤ n + 1 → remove xs n ≡ take n xs
taken_last [] zero le = refl
taken_last [] (suc n) le = refl
taken_last (x ∷ []) zero le = refl
taken_last (x ∷ y ∷ xs) zero le = absurd (omega (arith, le))
taken_last {X} (x ∷ xs) (suc n) le = ap (λ v. x ∷ v) (taken_last xs n (omega (arith, le)))

pub last_taken : {X : Type 0} (xs : List X) → remove xs (length xs - 1) ≡ take (length xs - 1) xs
last_taken xs = taken_last xs (length xs - 1) (omega arith)

some_same : (k j : ℕ) → (let a = Some k in a) ≡ Some j → k ≡ j
some_same k j e = cc

-- what stands at one place is the same
pub same_line : (lines : List Timeline) (place : Option ℕ) (at k : ℕ) (line other : Timeline) → place ≡ Some at → slice_get lines at ≡ Some line → place ≡ Some k → slice_get lines k ≡ Some other → other.spans.items ≡ line.spans.items
same_line lines place at k line other is there is' there' =
    let same = some_same at k (sym is ∙ is') in
    let here = rw same at there in
    let both = sym there' ∙ here in
    let one : other ≡ line = cc in
    ap (λ (v : Timeline). v.spans.items) one

-- the last of an ordered list is no less than each
pub last_most : {X : Type 0} (n : X → ℕ) (xs : List X) (k : ℕ) (d e : X) → IsNonDecreasingBy n xs → k < length xs → n (get_or xs k d) ≤ n (get_or xs (length xs - 1) e)
last_most {X} n xs k d e up lt = rw (any_default xs k e d lt) at (up k (length xs - 1) e (omega (arith, lt)) (omega (arith, lt)))

-- ---- one timeline of a list changes

module _ (lines : List Timeline) (place : Option ℕ) (at : ℕ) (was : Timeline) (is : place ≡ Some at) (there : slice_get lines at ≡ Some was) (line : Timeline) where
  other_line : (k : ℕ) (l : Timeline) → (place ≡ Some k → ⊥) → slice_get (set lines at line) k ≡ Some l → slice_get lines k ≡ Some l
  other_line k l apart found = sym (set_there lines at k line (λ e. apart (is ∙ ap Some e))) ∙ found

  this_line : (k : ℕ) (l : Timeline) → place ≡ Some k → slice_get (set lines at line) k ≡ Some l → (l ≡ line) × (slice_get lines k ≡ Some was)
  this_line k l here found =
      let same = some_same at k (sym is ∙ here) in
      let both = sym found ∙ (subst (λ v. slice_get (set lines at line) v ≡ Some line) same (set_here lines at line (slice_get_within lines at was there))) in
      (cc, subst (λ v. slice_get lines v ≡ Some was) same there)

  pub line_put : (span : Span) → IsPut span was.spans.items line.spans.items → vec_capacity line.spans ≡ vec_capacity was.spans → ArePut place span lines (set lines at line)
  line_put span put room = record {
    long = length-set lines at line;
    others = other_line;
    here = (λ k l here found. let r = this_line k l here found in
        (was, r.1, rw r.0 put, ap (λ (v : Timeline). vec_capacity v.spans) r.0 ∙ room));
  }

  pub line_taken : (span : Span) → IsTaken span was.spans.items line.spans.items → vec_capacity line.spans ≡ vec_capacity was.spans → AreTaken place span lines (set lines at line)
  line_taken span taken room = record {
    long = length-set lines at line;
    others = other_line;
    here = (λ k l here found. let r = this_line k l here found in
        (was, r.1, rw r.0 taken, ap (λ (v : Timeline). vec_capacity v.spans) r.0 ∙ room));
  }

pub none_taken : (lines : List Timeline) (place : Option ℕ) (span : Span) → place ≡ None → AreTaken place span lines lines
none_taken lines place span none = record {
  long = refl;
  others = (λ k l apart found. found);
  here = (λ k l here found. absurd (let never = sym none ∙ here in cc));
}

-- ---- one time less

module _ (spans : List Span) where
  -- a time that stands in the list stands behind those that start before it
  pub stands_behind : (span : Span) (place at : ℕ) → AllWithin (λ (s : Span). s.from < span.from) spans 0 place → slice_get spans at ≡ Some span → place ≤ at
  stands_behind span place at before there = elim (cases_lt at place) [
    | inr behind ↦ behind
    | inl early ↦ absurd (let same = ap (λ (s : Span). s.from) (get_or_from_slice_get spans at span span there) in omega (arith, same, before at span (omega arith) early))
  ]

  -- a time that is read, and starts and ends as another one does
  pub read_time : (k : ℕ) (read span : Span) → k < length spans → read ≡ get_or spans k read → read.from ≡ span.from → read.to ≡ span.to → slice_get spans k ≡ Some span
  read_time k read span lt is begin end = slice_at spans k read lt is ∙ ap Some (both read span begin end)
    where
      make : ℕ → ℕ → Span
      make x y = record { from = x; to = y }

      both : (a b : Span) → a.from ≡ b.from → a.to ≡ b.to → a ≡ b
      both a b f t = ap (λ v. make v a.to) f ∙ ap (make b.from) t

  -- a time that starts no earlier than one that stands no earlier, and ends as it does, is that one
  pub same_time : (span read : Span) (place at : ℕ) → IsNonDecreasingBy (λ (s : Span). s.from) spans → AllWithin (λ (s : Span). span.from ≤ s.from) spans place (length spans) →
      place ≤ at → slice_get spans at ≡ Some span → read ≡ get_or spans place read → read.to ≡ span.to → slice_get spans place ≡ Some span
  same_time span read place at up late le there is end =
      let within = slice_get_within spans at span there in
      let last = ap (λ (s : Span). s.from) (get_or_from_slice_get spans at span read there) in
      let first = ap (λ (s : Span). s.from) is in
      let begin : read.from ≡ span.from = omega (arith, up place at read le within, late place read (omega arith) (omega arith), last, first) in
      read_time place read span (omega arith) is begin end

-- ---- the first start behind times that have ended

-- a test that starts when some have ended, and ends as the next one starts, meets none
pub clear_between : (spans : List Span) (length' next place : ℕ) (e : Span) → IsNonDecreasingBy (λ (s : Span). s.from) spans → AllWithin (λ (s : Span). s.to ≤ next) spans 0 place →
    place < length spans → next + length' ≤ (get_or spans place e).from → All (IsClear length' next) spans
clear_between spans length' next place e up ended within room k d lt = elim (cases_lt k place) [
  | inl before ↦ inl (ended k d (omega arith) before)
  | inr behind ↦ inr (omega (arith, room, up place k d behind lt, ap (λ (s : Span). s.from) (any_default spans place e d within)))
]

-- of times that end in the order of their starts, only the last runs
pub last_runs : (spans : List Span) (cycle : ℕ) (e : Span) → IsNonDecreasingBy (λ (s : Span). s.to) spans → 2 ≤ length spans → cycle < (get_or spans (length spans - 1) e).to → (get_or spans (length spans - 2) e).to ≤ cycle →
    IsPartitionPoint (λ (s : Span). s.to ≤ cycle) (λ (s : Span). cycle < s.to) spans (length spans - 1)
last_runs spans cycle e up some last before = (
  (λ k d low high. omega (arith, before, up k (length spans - 2) d (omega arith) (omega arith), ap (λ (s : Span). s.to) (any_default spans (length spans - 2) d e (omega arith)))),
  (λ k d low high. omega (arith, last, up (length spans - 1) k d low high, ap (λ (s : Span). s.to) (any_default spans (length spans - 1) d e (omega arith)))),
)
