-- Live tests by their names.
use Rattle.std.proofs.Common.{◌≡◌, ℕ, ◌<◌, true, Some, length, refl, ap, ◌∙◌, arith, get_or, sym, ◌-◌, slice_get}
use Rattle.std.proofs.lemmas.Bool.{false_from_ne_true}
use Rattle.std.proofs.lemmas.List.Sums.{position_or_len_is}
use Rattle.std.proofs.lemmas.Option.{slice_get-map, slice_get-get_or, slice_get_within, get_or_from_slice_get}
use Rattle.soc_model.specs.Chips.{SocValue, LiveTest, live_tests, same_test, id_of}
use Rattle.plan_model.specs.Rules.{live_ids}
use Rattle.soc_model.specs.SoundChips.{IsSoundChip}
use Rattle.plan_model.proofs.CertificatesAreBounds.{same_test_is, is_same_test}
use Rattle.live_tests.proofs.LiveIds.{ids_differ}
use Rattle.leaf_bounds.specs.Lists.{live_place}

pub name_at : (soc : SocValue) (i : ℕ) {l : LiveTest} → slice_get (live_tests soc) i ≡ Some l → slice_get (live_ids soc) i ≡ Some (id_of l)
name_at soc i at = slice_get-map id_of (live_tests soc) i ∙ rw at refl

module _ {soc : SocValue} (sound : IsSoundChip soc) (i : ℕ) where
  -- live tests of one name are one
  pub one_place : (j : ℕ) (a b : LiveTest) → slice_get (live_tests soc) i ≡ Some a → slice_get (live_tests soc) j ≡ Some b → id_of a ≡ id_of b → i ≡ j
  one_place j a b at at' same = ids_differ soc sound i j (id_of b) (name_at soc i at ∙ ap Some same) (name_at soc j at')

  -- a live test is found by its name
  pub place_is : {l : LiveTest} → slice_get (live_tests soc) i ≡ Some l → live_place soc (id_of l) ≡ i
  place_is {l} at =
      let here = name_at soc i at in
      let within = slice_get_within (live_ids soc) i (id_of l) here in
      position_or_len_is (same_test (id_of l)) (live_ids soc) i (id_of l) (omega arith) (λ k less. false_from_ne_true _ (λ e. before k less within e)) (λ h. rw (get_or_from_slice_get (live_ids soc) i (id_of l) (id_of l) here) (is_same_test (id_of l)))
    where
      before : (k : ℕ) → k < i → i < length (live_ids soc) → same_test (id_of l) (get_or (live_ids soc) k (id_of l)) ≡ true → ⊥
      before k less within e =
          let there = slice_get-get_or (live_ids soc) k (id_of l) (omega arith) in
          let same = same_test_is (id_of l) (get_or (live_ids soc) k (id_of l)) e in
          let one = ids_differ soc sound k i (id_of l) (there ∙ ap Some (sym same)) (name_at soc i at) in
          omega arith
