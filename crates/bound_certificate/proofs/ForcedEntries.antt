-- One more entry of a forced list.
use Rattle.std.proofs.Common.{◌≡◌, ℕ, zero, suc, ◌+◌, ◌≤◌, ◌<◌, ◌≢◌, Bool, true, false, Some, List, replicate, length, get_or, take, refl, sym, ap, ◌∙◌, arith, inl, inr, ◌⊎◌, slice_get, slice_set, min, Contains}
use Rattle.std.proofs.lemmas.Bool.{cases_lt, cases_eq}
use Rattle.std.proofs.lemmas.List.{length-take, get_or-set_same, get_or-set_other}
use Rattle.soc_model.specs.Chips.{SocValue}
use Rattle.soc_model.specs.Lookups.{module_place}
use Rattle.soc_model.proofs.Places.{slice_get-from_position}
use Rattle.plan_model.specs.Certificates.{need_of, HasTamTest, IsForcedItem, on}
use Rattle.plan_model.specs.Bounds.{need}
use Rattle.bound_certificate.specs.Forced.{IsForcedSoFar}
use Rattle.common_lemmas.proofs.Lists.{is_before, is_last, before_or_last}

same_number : (soc : SocValue) (m n p : ℕ) → module_place soc m ≡ Some p → module_place soc n ≡ Some p → m ≡ n
same_number soc m n p a b =
    let one : slice_get soc.keys p ≡ Some m = slice_get-from_position soc.keys m p a in
    let two : slice_get soc.keys p ≡ Some n = slice_get-from_position soc.keys n p b in
    cc

need-at : (soc : SocValue) (w b m p : ℕ) → module_place soc m ≡ Some p → need_of soc w b m ≡ need soc w b p
need-at soc w b m p at = ap (λ o. on o (need soc w b)) at

module _ (soc : SocValue) (w b : ℕ) where
  pub entry_kept : (ms : List ℕ) (i m p : ℕ) (marks : List Bool) (least needed : ℕ) → slice_get ms i ≡ Some m → IsForcedSoFar soc w b (take i ms) marks least →
      module_place soc m ≡ Some p → HasTamTest soc m → get_or marks p false ≡ false → needed ≡ need soc w b p → w < least + needed → IsForcedItem soc w b (take i ms) m
  entry_kept ms i m p marks least needed at so_far place tam free is much = record {
    tam = tam;
    new = λ earlier. let marked = so_far.marked m p earlier place in absurd cc;
    needs = λ a earlier. omega (arith, so_far.least_le a earlier, need-at soc w b m p place);
  }

  pub entry_taken : (ms : List ℕ) (i m p : ℕ) (marks : List Bool) (least needed : ℕ) → slice_get ms i ≡ Some m → IsForcedSoFar soc w b (take i ms) marks least →
      module_place soc m ≡ Some p → p < length marks → needed ≡ need soc w b p → IsForcedSoFar soc w b (take (i + 1) ms) (slice_set marks p true) (min least needed)
  entry_taken ms i m p marks least needed at so_far place room is = record {
    marked = λ n q here there. elim (before_or_last ms i m n at here) [
      | inl before ↦ still q (cases_eq q p) (so_far.marked n q before there)
      | inr this ↦
          let there' = rw this at there in
          let same : p ≡ q = cc in
          rw (← same) (get_or-set_same marks p true false room)
    ];
    only = λ q marked. elim (cases_eq q p) [
      | inl same ↦ (m, is_last ms i m at, place ∙ ap Some (sym same))
      | inr other ↦
          let before = so_far.only q (sym (get_or-set_other marks p q true false other) ∙ marked) in
          (before.0, is_before ms i m before.0 at before.1, before.2)
    ];
    least_le = λ n here. elim (before_or_last ms i m n at here) [
      | inl before ↦ omega (arith, so_far.least_le n before)
      | inr this ↦ rw this (omega (arith, need-at soc w b m p place))
    ];
    least_is = elim (cases_lt needed least) [
      | inl less ↦ inr (m, is_last ms i m at, omega (arith, need-at soc w b m p place))
      | inr more ↦ kept more so_far.least_is
    ];
  }
    where
      still : (q : ℕ) → (q ≡ p) ⊎ (q ≢ p) → get_or marks q false ≡ true → get_or (slice_set marks p true) q false ≡ true
      still q (inl same) marked = rw same (get_or-set_same marks p true false room)
      still q (inr other) marked = get_or-set_other marks p q true false other ∙ marked

      kept : least ≤ needed → (least ≡ w + 1) ⊎ ((n : ℕ) × Contains (take i ms) n × (need_of soc w b n ≡ least)) → (min least needed ≡ w + 1) ⊎ ((n : ℕ) × Contains (take (i + 1) ms) n × (need_of soc w b n ≡ min least needed))
      kept more (inl none) = inl (omega arith)
      kept more (inr one) = inr (one.0, is_before ms i m one.0 at one.1, omega (arith, one.2))

  -- what an entry breaks
  pub marked_breaks : (ms : List ℕ) (i m p : ℕ) (marks : List Bool) (least : ℕ) → slice_get ms i ≡ Some m → IsForcedSoFar soc w b (take i ms) marks least → module_place soc m ≡ Some p → get_or marks p false ≡ true → IsForcedItem soc w b (take i ms) m → ⊥
  marked_breaks ms i m p marks least at so_far place marked keeps =
      let one = so_far.only p marked in
      let same : one.0 ≡ m = same_number soc one.0 m p one.2 place in
      keeps.new (rw same at one.1)

  pub few_breaks : (ms : List ℕ) (i m p : ℕ) (marks : List Bool) (least needed : ℕ) → IsForcedSoFar soc w b (take i ms) marks least → module_place soc m ≡ Some p → needed ≡ need soc w b p → least + needed ≤ w → IsForcedItem soc w b (take i ms) m → ⊥
  few_breaks ms i m p marks least needed so_far place is few keeps = elim so_far.least_is [
    | inl none ↦ omega arith
    | inr one ↦ omega (arith, keeps.needs one.0 one.1, one.2, need-at soc w b m p place)
  ]

  pub none_taken : (ms : List ℕ) (marks : List Bool) → ((p : ℕ) → get_or marks p false ≡ false) → IsForcedSoFar soc w b (take 0 ms) marks (w + 1)
  none_taken ms marks free = record {
    marked = λ m p earlier place. absurd (omega (arith, earlier.1, length-take 0 ms));
    only = λ p marked. let none = free p in absurd cc;
    least_le = λ m earlier. absurd (omega (arith, earlier.1, length-take 0 ms));
    least_is = inl refl;
  }

pub cleared-at : (n p : ℕ) (marks : List Bool) → marks ≡ replicate n false → get_or marks p false ≡ false
cleared-at n p marks is = ap (λ ms. get_or ms p false) is ∙ go n p where
  go : (n p : ℕ) → get_or (replicate n false) p false ≡ false
  go zero p = refl
  go (suc n) zero = refl
  go (suc n) (suc p) = go n p
