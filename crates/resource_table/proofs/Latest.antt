-- Until when the children of each module run at the latest, as tests are placed and taken back.
use Rattle.std.proofs.Common.{◌≡◌, ◌⊎◌, ℕ, zero, suc, ◌+◌, ◌<◌, ◌≤◌, inl, inr, max, Option, None, Some, List, [], ◌∷◌, ◌++◌, length, get_or, arith, refl, sym, ap, ◌∙◌, length-append}
use Rattle.std.{specs.Prelude.slice_get, specs.Prelude.IfSome, specs.Prelude.vec_capacity, proofs.Math.ListN.get_or-append, proofs.Math.Seq.get_or-append_seam}
use Rattle.std.proofs.lemmas.{Bool.cases_eq, Grind.get_or-set_at, Option.slice_get_within, List.length-set, List.get_or-set_other}
use Rattle.plan_model.proofs.Lists.{from_append}
use Rattle.resource_table.specs.{declared.Placement.Placement, Schedules.end_of}
use Rattle.busy_times.specs.declared.latest_ends.LatestEnds.{LatestEnds}
use Rattle.resource_table.specs.Jobs.{JobValue, test_at}
use Rattle.busy_times.specs.LatestEnds.{end_at, with_end, IsLater, IsBack}
use Rattle.resource_table.specs.LatestEnds.{IsChildAt, AreLatestEnds}
use Rattle.common_lemmas.proofs.Lists.{at_last, at_left}

-- ---- another end at a place

some_is : (j k : ℕ) → (let a = Some j in a) ≡ Some k → j ≡ k
some_is j k e = cc

at_or_not : (place : Option ℕ) (k : ℕ) → (place ≡ Some k) ⊎ (place ≡ Some k → ⊥)
at_or_not None k = inr (λ e. cc)
at_or_not (Some j) k = elim (cases_eq j k) [
  | inl same ↦ inl (ap Some same)
  | inr apart ↦ inr (λ e. apart (some_is j k e))
]

length-with_end : (place : Option ℕ) (end : ℕ) (ends : List ℕ) → length (with_end place end ends) ≡ length ends
length-with_end None end ends = refl
length-with_end (Some j) end ends = length-set ends j end

with_end_here : (place : Option ℕ) (end : ℕ) (ends : List ℕ) (k : ℕ) → place ≡ Some k → IfSome place (λ j. j < length ends) → get_or (with_end place end ends) k 0 ≡ end
with_end_here None end ends k is inside = absurd cc
with_end_here (Some j) end ends k is inside = get_or-set_at ends j k end 0 (sym (some_is j k is)) inside

with_end_other : (place : Option ℕ) (end : ℕ) (ends : List ℕ) (k : ℕ) → (place ≡ Some k → ⊥) → get_or (with_end place end ends) k 0 ≡ get_or ends k 0
with_end_other None end ends k apart = refl
with_end_other (Some j) end ends k apart = get_or-set_other ends j k end 0 (λ e. apart (ap Some (sym e)))

end_is : (place : Option ℕ) (ends : List ℕ) (k : ℕ) → place ≡ Some k → end_at place ends ≡ get_or ends k 0
end_is None ends k is = absurd cc
end_is (Some j) ends k is = ap (λ n. get_or ends n 0) (some_is j k is)

-- a later end at a place makes no end earlier
ends_rise : (place : Option ℕ) (end : ℕ) (ends : List ℕ) (k : ℕ) → IfSome place (λ j. j < length ends) → get_or ends k 0 ≤ get_or (with_end place (max (end_at place ends) end) ends) k 0
ends_rise place end ends k inside = elim (at_or_not place k) [
  | inl is ↦ omega (arith, with_end_here place (max (end_at place ends) end) ends k is inside, end_is place ends k is)
  | inr apart ↦ omega (arith, with_end_other place (max (end_at place ends) end) ends k apart)
]

-- ---- no test, one more, one less

pub latest_new : (job : JobValue) (modules : ℕ) (latest : LatestEnds) → length latest.ends.items ≡ modules → latest.before.items ≡ [] → length job.tests ≤ vec_capacity latest.before → AreLatestEnds job [] modules latest
latest_new job modules latest long none room = record {
  long = long;
  now = (λ k n p child. absurd (let there = child.there in cc));
  levels = ap length none;
  past = (λ k n later p q less child last. absurd (let there = child.there in cc));
  room = room;
}

pub latest_over : (job other : JobValue) (modules : ℕ) (latest : LatestEnds) → length other.tests ≡ length job.tests → AreLatestEnds job [] modules latest → AreLatestEnds other [] modules latest
latest_over job other modules latest same are = record {
  long = are.long;
  now = (λ k n p child. absurd (let there = child.there in cc));
  levels = are.levels;
  past = (λ k n later p q less child last. absurd (let there = child.there in cc));
  room = omega (arith, are.room, same);
}

module _ (job : JobValue) (placed : List Placement) (p : Placement) where
  child_in : (k n : ℕ) (q : Placement) → IsChildAt job placed k n q → IsChildAt job (placed ++ p ∷ []) k n q
  child_in k n q child = record { there = at_left placed (p ∷ []) n q child.there; parent = child.parent }

  child_of : (k n : ℕ) (q : Placement) → IsChildAt job (placed ++ p ∷ []) k n q → (IsChildAt job placed k n q × (n < length placed)) ⊎ ((n ≡ length placed) × (p ≡ q))
  child_of k n q child = elim (from_append placed (p ∷ []) n q child.there) [
    | inl old ↦ inl (record { there = old; parent = child.parent }, slice_get_within placed n q old)
    | inr new ↦ inr (last new.0 new.1 new.2)
  ]
    where
      last : (j : ℕ) → n ≡ length placed + j → slice_get (p ∷ []) j ≡ Some q → (n ≡ length placed) × (p ≡ q)
      last zero e at = (omega (arith, e), cc)
      last (suc j) e at = absurd cc

  parent_is : (k n : ℕ) (q : Placement) → IsChildAt job (placed ++ p ∷ []) k n q → p ≡ q → (test_at job p.test).parent ≡ Some k
  parent_is k n q child same = ap (λ (v : Placement). (test_at job v.test).parent) same ∙ child.parent

  pub latest_more : (modules : ℕ) (old new : LatestEnds) → AreLatestEnds job placed modules old → IfSome (test_at job p.test).parent (λ k. k < modules) → IsLater (test_at job p.test).parent (end_of job p) old new →
      AreLatestEnds job (placed ++ p ∷ []) modules new
  latest_more modules old new are within raised = record {
    long = ap length raised.ends ∙ length-with_end place (max (end_at place ends) (end_of job p)) ends ∙ are.long;
    now = (λ k n q child. elim (child_of k n q child) [
      | inl c ↦ let h = are.now k n q c.0 in omega (arith, h, ends_rise place (end_of job p) ends k inside, now_is k)
      | inr r ↦ omega (arith, now_is k, with_end_here place (max (end_at place ends) (end_of job p)) ends k (parent_is k n q child r.1) inside, ap (end_of job) r.1)
    ]);
    levels = omega (arith, ap length raised.before, length-append old.before.items (end_at place ends ∷ []), are.levels, length-append placed (p ∷ []));
    past = (λ k n later q r less child last. elim (child_of k n q child) [
      | inr here ↦ absurd (let in' = slice_get_within (placed ++ p ∷ []) later r last.there in omega (arith, less, here.0, in', length-append placed (p ∷ [])))
      | inl c ↦ elim (child_of k later r last) [
        | inl d ↦ let h = are.past k n later q r less c.0 d.0 in let lt = d.1 in omega (arith, h, before_is later, get_or-append old.before.items (end_at place ends ∷ []) 0 later (let levels = are.levels in omega (arith, lt, levels)))
        | inr e ↦ let h = are.now k n q c.0 in omega (arith, h, before_is later, seam later e.0, end_is place ends k (parent_is k later r last e.1))
      ]
    ]);
    room = omega (arith, are.room, raised.room);
  }
    where
      place : Option ℕ
      place = (test_at job p.test).parent

      ends : List ℕ
      ends = old.ends.items

      inside : IfSome place (λ k. k < length ends)
      inside = rw are.long within

      now_is : (k : ℕ) → get_or new.ends.items k 0 ≡ get_or (with_end place (max (end_at place ends) (end_of job p)) ends) k 0
      now_is k = ap (λ v. get_or v k 0) raised.ends

      before_is : (n : ℕ) → get_or new.before.items n 0 ≡ get_or (old.before.items ++ end_at place ends ∷ []) n 0
      before_is n = ap (λ v. get_or v n 0) raised.before

      seam : (n : ℕ) → n ≡ length placed → get_or (old.before.items ++ end_at place ends ∷ []) n 0 ≡ end_at place ends
      seam n is = ap (λ m. get_or (old.before.items ++ end_at place ends ∷ []) m 0) (is ∙ sym are.levels) ∙ get_or-append_seam old.before.items (end_at place ends) [] 0

  pub latest_less : (modules : ℕ) (old new : LatestEnds) → AreLatestEnds job (placed ++ p ∷ []) modules old → IfSome (test_at job p.test).parent (λ k. k < modules) → IsBack (test_at job p.test).parent old new →
      AreLatestEnds job placed modules new
  latest_less modules old new are within back = record {
    long = ap length back.ends ∙ length-with_end place back.was ends ∙ are.long;
    now = (λ k n q child. elim (at_or_not place k) [
      | inl is ↦
          let lt = slice_get_within placed n q child.there in
          let h = are.past k n (length placed) q p lt (child_in k n q child) (record { there = at_last placed p; parent = is }) in
          omega (arith, h, now_is k, with_end_here place back.was ends k is inside, before_is (length placed), seam)
      | inr apart ↦ let h = are.now k n q (child_in k n q child) in omega (arith, h, now_is k, with_end_other place back.was ends k apart)
    ]);
    levels = levels;
    past = (λ k n later q r less child last.
        let h = are.past k n later q r less (child_in k n q child) (child_in k later r last) in
        let lt = slice_get_within placed later r last.there in
        omega (arith, h, before_is later, get_or-append new.before.items (back.was ∷ []) 0 later (omega (arith, lt, levels))));
    room = omega (arith, are.room, back.room);
  }
    where
      place : Option ℕ
      place = (test_at job p.test).parent

      ends : List ℕ
      ends = old.ends.items

      inside : IfSome place (λ k. k < length ends)
      inside = rw are.long within

      levels : length new.before.items ≡ length placed
      levels = omega (arith, ap length back.before, length-append new.before.items (back.was ∷ []), are.levels, length-append placed (p ∷ []))

      now_is : (k : ℕ) → get_or new.ends.items k 0 ≡ get_or (with_end place back.was ends) k 0
      now_is k = ap (λ v. get_or v k 0) back.ends

      before_is : (n : ℕ) → get_or old.before.items n 0 ≡ get_or (new.before.items ++ back.was ∷ []) n 0
      before_is n = ap (λ v. get_or v n 0) back.before

      seam : get_or (new.before.items ++ back.was ∷ []) (length placed) 0 ≡ back.was
      seam = ap (λ m. get_or (new.before.items ++ back.was ∷ []) m 0) (sym levels) ∙ get_or-append_seam new.before.items back.was [] 0
