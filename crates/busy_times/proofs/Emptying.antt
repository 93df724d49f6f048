-- Timelines whose times are all taken out.
use Rattle.std.proofs.Common.{◌≡◌, ◌⊎◌, inl, inr, ℕ, ◌+◌, ◌<◌, ◌≤◌, false, Some, List, [], length, get_or, set, arith, refl, sym, ap, ◌∙◌, subst, slice_get, nat_eq, vec_capacity}
use Rattle.std.proofs.lemmas.Bool.{cases_Bool, cases_lt, eqb-true, eq-eqb}
use Rattle.std.proofs.lemmas.{List.length-set, Option.slice_get_within}
use Rattle.busy_times.specs.declared.timelines.Timeline.{Timeline}
use Rattle.busy_times.{specs.BusyTimes.AreCleared, proofs.Spans.set_there}
use Rattle.common_lemmas.proofs.Lists.{slice_at, set_here}

-- the first `count` timelines have no times; all have the room that they had
pub record AreClearedTo (count : ℕ) (old now : List Timeline) : Type 0 where
  pub long : length now ≡ length old
  pub empty : (k : ℕ) (line : Timeline) → k < count → slice_get now k ≡ Some line → line.spans.items ≡ []
  pub room : (k : ℕ) (line : Timeline) → slice_get now k ≡ Some line → (was : Timeline) × (slice_get old k ≡ Some was) × (vec_capacity line.spans ≡ vec_capacity was.spans)

pub clear_none : (lines : List Timeline) → AreClearedTo 0 lines lines
clear_none lines = record {
  long = refl;
  empty = (λ k line lt at. absurd (omega (arith, lt)));
  room = (λ k line at. (line, at, refl));
}

-- a place is that of the item that was set, or another one
set_either : (xs : List Timeline) (at k : ℕ) (x l : Timeline) → at < length xs → slice_get (set xs at x) k ≡ Some l → ((at ≡ k) × (l ≡ x)) ⊎ ((at ≡ k → ⊥) × (slice_get xs k ≡ Some l))
set_either xs at k x l lt found = elim (cases_Bool (nat_eq at k)) [
  | inl yes' ↦ inl (let same = eqb-true at k yes' in (same, this same))
  | inr no' ↦ inr (other no', sym (set_there xs at k x (other no')) ∙ found)
]
  where
    this : at ≡ k → l ≡ x
    this same =
        let both = sym found ∙ (subst (λ v. slice_get (set xs at x) v ≡ Some x) same (set_here xs at x lt)) in
        cc

    other : nat_eq at k ≡ false → at ≡ k → ⊥
    other no' same = let yes' = eq-eqb at k same in cc

pub clear_more : (old now : List Timeline) (at : ℕ) (read line : Timeline) → at < length now → read ≡ get_or now at read → line.spans.items ≡ [] → vec_capacity line.spans ≡ vec_capacity read.spans → AreClearedTo at old now → AreClearedTo (at + 1) old (set now at line)
clear_more old now at read line lt is empty room are = record {
  long = length-set now at line ∙ are.long;
  empty = (λ k l below found. elim (set_either now at k line l lt found) [
    | inl r ↦ ap (λ (v : Timeline). v.spans.items) r.1 ∙ empty
    | inr r ↦ elim (cases_lt k at) [
      | inl less ↦ are.empty k l less r.1
      | inr le ↦ absurd (r.0 (omega (arith, le, below)))
    ]
  ]);
  room = (λ k l found. elim (set_either now at k line l lt found) [
    | inl r ↦ this_room k l r.0 r.1
    | inr r ↦ are.room k l r.1
  ]);
}
  where
    this_room : (k : ℕ) (l : Timeline) → at ≡ k → l ≡ line → (was : Timeline) × (slice_get old k ≡ Some was) × (vec_capacity l.spans ≡ vec_capacity was.spans)
    this_room k l same one =
        let w = are.room at read (slice_at now at read lt is) in
        (w.0, subst (λ v. slice_get old v ≡ Some w.0) same w.1, ap (λ (v : Timeline). vec_capacity v.spans) one ∙ room ∙ w.2)

pub clear_all : (old now : List Timeline) (count : ℕ) → length now ≤ count → AreClearedTo count old now → AreCleared old now
clear_all old now count le are = record {
  long = are.long;
  empty = (λ k line at. are.empty k line (omega (arith, slice_get_within now k line at, le)) at);
  room = are.room;
}
