-- The rule of two cases by the place of a module.
use Rattle.std.proofs.Common.{◌≡◌, ℕ, zero, suc, ◌+◌, ◌≤◌, ◌<◌, Some, List, ◌∷◌, length, refl, sym, ap, ◌∙◌, subst, arith, inl, inr, slice_get, slice_index, All}
use Rattle.std.proofs.lemmas.Bool.{cases_lt, cases_order}
use Rattle.std.proofs.lemmas.List.{get_or_default}
use Rattle.std.proofs.lemmas.List.Elements.{All-cons}
use Rattle.std.proofs.lemmas.Option.{slice_get-get_or, slice_get_within, get_or_from_slice_get}
use Rattle.soc_model.specs.Chips.{SocValue}
use Rattle.leaf_bounds.specs.declared.case.CaseRoom.{CaseRoom}
use Rattle.bus_proofs.specs.Cases.{AreTwins}
use Rattle.leaf_bounds.specs.Cases.{Case}
use Rattle.leaf_bounds.specs.CaseRooms.{IsCaseOf}
use Rattle.bus_proofs.specs.Walks.{AreRanks, IsNewTwin, IsPlaceAt}
use Rattle.leaf_bounds.specs.Bases.{IsWiredAt}

-- ---- known ranks that differ

module _ (known rank : ℕ) (twins : List ℕ) where
  pub all_new : rank < known → ((k : ℕ) → k < length twins → IsNewTwin known rank twins k) → AreRanks known (rank ∷ twins)
  all_new less each = record {
    known_all = All-cons (λ r. r < known) rank twins less (λ k d within. subst (λ x. x < known) (get_or_default twins k 0 d within) (each k within).below);
    differ = differ;
  }
    where
      first : (q n : ℕ) → Some rank ≡ Some n → slice_get twins q ≡ Some n → ⊥
      first q n here at =
          let same : rank ≡ n = cc in
          (each q (slice_get_within twins q n at)).other (get_or_from_slice_get twins q n 0 at ∙ sym same)

      order : (p q n : ℕ) → p < q → slice_get twins p ≡ Some n → slice_get twins q ≡ Some n → ⊥
      order p q n less at at' = (each q (slice_get_within twins q n at')).new p less (get_or_from_slice_get twins p n 0 at ∙ sym (get_or_from_slice_get twins q n 0 at'))

      differ : (p q n : ℕ) → slice_get (rank ∷ twins) p ≡ Some n → slice_get (rank ∷ twins) q ≡ Some n → p ≡ q
      differ zero zero n at at' = refl
      differ zero (suc q) n at at' = absurd (first q n at at')
      differ (suc p) zero n at at' = absurd (first p n at' at)
      differ (suc p) (suc q) n at at' = elim (cases_order p q) [
        | inl same ↦ ap suc same
        | inr other ↦ elim other [
          | inl less ↦ absurd (order p q n less at at')
          | inr more ↦ absurd (order q p n more at' at)
        ]
      ]

  pub each_new : (k : ℕ) → AreRanks known (rank ∷ twins) → k < length twins → IsNewTwin known rank twins k
  each_new k are within = record {
    below = are.known_all (suc k) 0 (omega (arith, within));
    other = λ e. no_zero k (are.differ 0 (suc k) rank refl (slice_get-get_or twins k 0 within ∙ ap Some e));
    new = λ q less e. apart q less (are.differ (suc q) (suc k) (slice_index twins k) (slice_get-get_or twins q 0 (omega (arith, less, within)) ∙ ap Some e) (slice_get-get_or twins k 0 within));
  }
    where
      no_zero : (k : ℕ) → 0 ≡ suc k → ⊥
      no_zero k e = omega (arith, e)

      apart : (q : ℕ) → q < k → suc q ≡ suc k → ⊥
      apart q less e = omega (arith, less, e)

-- ---- twins

module _ (soc : SocValue) (c : Case) (rank : ℕ) (twins : List ℕ) where
  -- one twin more
  pub twins_more : (at : ℕ) → ((k : ℕ) → k < at → AreTwins soc c rank (slice_index twins k)) → AreTwins soc c rank (slice_index twins at) → (k : ℕ) → k < at + 1 →
      AreTwins soc c rank (slice_index twins k)
  twins_more at before here k less = elim (cases_lt k at) [
    | inl earlier ↦ before k earlier
    | inr last ↦
        let same : at ≡ k = omega (arith, last, less) in
        subst (λ n. AreTwins soc c rank (slice_index twins n)) same here
  ]

  -- each twin is one, place by place
  pub all_twins : (n : ℕ) → length twins ≤ n → ((k : ℕ) → k < n → AreTwins soc c rank (slice_index twins k)) → All (AreTwins soc c rank) twins
  all_twins n all each k d within = subst (AreTwins soc c rank) (get_or_default twins k 0 d within) (each k (omega (arith, within, all)))

-- ---- the whole rule

pub place_is : {room : CaseRoom} {soc : SocValue} {c : Case} {m : ℕ} (rank : ℕ) (twins : List ℕ) {place : ℕ} → IsCaseOf room c → IsWiredAt soc m place →
    AreRanks (length room.widths.intervals.items) (rank ∷ twins) → All (AreTwins soc c rank) twins → IsPlaceAt soc c m rank twins place
place_is rank twins is wired are alike = record {
  rule = record {
    tam = wired.tam;
    known = subst (λ n. All (λ r. r < n) (rank ∷ twins)) (ap length is.intervals) are.known_all;
    differ = are.differ;
    alike = alike;
  };
  wired = wired;
}
