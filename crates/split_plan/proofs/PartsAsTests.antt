-- Parts as tests of the chip of parts, and cut tests by their names.
use Rattle.std.proofs.Common.{◌≡◌, inl, inr, ℕ, zero, suc, ◌+◌, ◌<◌, ◌≤◌, Bool, true, false, Option, Some, None, List, [], ◌∷◌, map, position, option_map, refl, sym, ap, ◌∙◌, subst, arith, slice_get, nat_eq, filter}
use Rattle.std.proofs.lemmas.Bool.{cases_Bool, eq-eqb}
use Rattle.soc_model.specs.declared.Test.{Test}
use Rattle.soc_model.specs.declared.TestId.{TestId}
use Rattle.soc_model.specs.Chips.{ModuleValue, SocValue, LiveTest, is_live, same_test, id_of, live_of, live_from, live_tests}
use Rattle.soc_model.specs.Lookups.{test_places}
use Rattle.soc_model.specs.SoundChips.{IsSoundChip}
use Rattle.soc_model.proofs.Places.{IsKeyed, IsKeyed-from_sound, place-from_module, test_places-at}
use Rattle.plan_model.specs.Plans.{LimitsValue}
use Rattle.plan_model.specs.SoundLimits.{HasTest}
use Rattle.plan_model.proofs.CertificatesAreBounds.{same_test_is, is_same_test}
use Rattle.plan_model.proofs.Finding.{none_passes}
use Rattle.plan_model.proofs.Lists.{from_filter, in_append_right, in_flat_map}
use Rattle.plan_model.proofs.PlannedTests.{live_at}
use Rattle.split_plan.specs.declared.cuts.Cut.{Cut}
use Rattle.split_plan.specs.Cuts.{cuts_in, all_cuts, cut_named, pieces, part_test}
use Rattle.split_plan.specs.Parts.{split_module, split_chip}
use Rattle.split_plan.proofs.Lists.{find_is}
use Rattle.split_plan.proofs.CutTests.{cut_from, cut_of_chip, parts_of_cut, piece_from, piece_to, in_module, name_of, cut_unique, AreParts, IsCutOf, IsPiece}
use Rattle.split_plan.proofs.ChipOfParts.{dead_part}
use Rattle.common_lemmas.proofs.Lists.{map_at, found_at, from_map, at_left, in_filter}

-- ---- tests of a chip

-- a test that stands in a module is one of the chip
pub has_test : (soc : SocValue) → IsKeyed soc → (p q : ℕ) (m : ModuleValue) (t : Test) → slice_get soc.modules p ≡ Some m →
    slice_get m.tests q ≡ Some t → HasTest soc (in_module m.number t.number)
has_test soc keyed p q m t at there = by (position (λ (u : Test). nat_eq t.number u.number) m.tests) refl
  where
    found : test_places soc (in_module m.number t.number) ≡ option_map (λ n. (p, n)) (position (λ (u : Test). nat_eq t.number u.number) m.tests)
    found = test_places-at soc (in_module m.number t.number) p m (place-from_module keyed p m at) at

    by : (o : Option ℕ) → position (λ (u : Test). nat_eq t.number u.number) m.tests ≡ o → HasTest soc (in_module m.number t.number)
    by None e =
        let fails = none_passes (λ (u : Test). nat_eq t.number u.number) m.tests e q t there in
        let passes : nat_eq t.number t.number ≡ true = eq-eqb t.number t.number refl in
        absurd cc
    by (Some n) e = rw (found ∙ ap (option_map (λ n. (p, n))) e) refl

-- a live test of a module is one of the live tests
pub live_to : (ms : List ModuleValue) (base up q : ℕ) (m : ModuleValue) (t : Test) → slice_get ms up ≡ Some m → slice_get m.tests q ≡ Some t →
    is_live t ≡ true → (i : ℕ) × (l : LiveTest) × (slice_get (live_from base ms) i ≡ Some l) × (l.place ≡ base + up) × (l.core ≡ m) × (l.test ≡ t)
unfolding live_from
live_to [] base up q m t at there live = absurd cc
live_to (n ∷ ms) base zero q m t at there live =
    let same : n ≡ m = cc in
    let f = in_filter is_live m.tests q t there live in
    let here = map_at (λ t. the_live base m t) (filter is_live m.tests) f.0 t f.1 in
    let here' = ap (λ n. slice_get (live_of base n) f.0) same ∙ here in
    (f.0, the_live base m t, at_left (live_of base n) (live_from (base + 1) ms) f.0 (the_live base m t) here', omega arith, refl, refl)
  where
    the_live : ℕ → ModuleValue → Test → LiveTest
    the_live place core test = record { place = place; core = core; test = test }
live_to (n ∷ ms) base (suc up) q m t at there live =
    let r = live_to ms (base + 1) up q m t at there live in
    let s = in_append_right (live_of base n) (live_from (base + 1) ms) r.0 r.1 r.2 in
    (s.0, r.1, s.1, omega arith, r.4, r.5)

pub flip_test : (a b : TestId) → same_test a b ≡ same_test b a
flip_test a b = elim (cases_Bool (same_test a b)) [
  | inl yes' ↦ let same = same_test_is a b yes' in ap (same_test a) (sym same) ∙ ap (λ c. same_test c a) same
  | inr no' ↦ no' ∙ sym (other (same_test b a) refl no')
]
  where
    other : (x : Bool) → same_test b a ≡ x → same_test a b ≡ false → x ≡ false
    other false e no' = refl
    other true e no' =
        let same = same_test_is b a e in
        let yes' : same_test a b ≡ true = rw same (is_same_test a) in
        absurd cc

pub from_named : (cuts : List Cut) (id : TestId) (c : Cut) → cut_named cuts id ≡ Some c → (i : ℕ) × (slice_get cuts i ≡ Some c) × (c.whole ≡ id)
from_named cuts id c e =
    let r = found_at (λ (c : Cut). same_test id c.whole) cuts c e in
    (r.0, r.1, sym (same_test_is id c.whole r.2))

module _ (limits : LimitsValue) (most : ℕ) (soc : SocValue) where
  abbrev cuts : List Cut
  cuts = all_cuts limits most soc

  module _ (c : Cut) (o : IsCutOf limits most soc c) where
    -- a live test that is cut, among the live tests
    pub live_cut : is_live c.test ≡ true →
        (i : ℕ) × (l : LiveTest) × (slice_get (live_tests soc) i ≡ Some l) × (l.place ≡ o.place) × (l.core ≡ o.core) × (l.test ≡ c.test)
    live_cut live =
        let r = live_to soc.modules 0 o.place o.cut.at o.core c.test o.core_at o.cut.test_at live in
        (r.0, r.1, r.2, omega arith, r.4, r.5)

    pub whole_is : c.whole ≡ in_module o.core.number c.test.number
    whole_is = ap (λ (d : Cut). d.whole) o.cut.is

    -- its name
    pub live_whole : (l : LiveTest) → l.core ≡ o.core → l.test ≡ c.test → id_of l ≡ c.whole
    live_whole l core test =
        ap (λ (m : ModuleValue). in_module m.number l.test.number) core ∙ ap (λ (t : Test). in_module o.core.number t.number) test ∙ sym whole_is

  -- ---- parts as tests of the chip of parts

  -- where the part stands in the chip of parts
  pub part_stands : (e : Cut × ℕ) (o : IsCutOf limits most soc e.0) → e.1 < e.0.count →
      (n : ℕ) × (slice_get (split_module limits most o.core).tests n ≡ Some (part_test e))
  part_stands e o within =
      let r = piece_to (cuts_in limits most o.core) o.nth e.0 e.1 o.nth_is within in
      (r.0, map_at part_test (pieces (cuts_in limits most o.core)) r.0 (e.0, e.1) r.1)

  pub has_part : IsSoundChip (split_chip limits most soc) → (e : Cut × ℕ) → IsPiece cuts e → HasTest (split_chip limits most soc) (name_of e)
  has_part sound e piece =
      let o = cut_of_chip limits most soc piece.at e.0 piece.there in
      let t = part_stands e o piece.within in
      let m = map_at (split_module limits most) soc.modules o.place o.core o.core_at in
      let has = has_test (split_chip limits most soc) (IsKeyed-from_sound sound) o.place t.0 (split_module limits most o.core) (part_test e) m t.1 in
      rw (ap (λ (i : TestId). i.module) (whole_is e.0 o)) has

  -- a live test of the chip of parts is a part of a live test
  pub record IsLivePiece (l : LiveTest) : Type 0 where
    pub piece : Cut × ℕ
    pub is_piece : IsPiece cuts piece
    pub id_is : id_of l ≡ name_of piece
    pub test_is : l.test ≡ part_test piece
    pub live : is_live l.test ≡ true

  pub live_piece : (i : ℕ) (l : LiveTest) → slice_get (live_tests (split_chip limits most soc)) i ≡ Some l → IsLivePiece l
  live_piece i l at =
      let v = live_at (map (split_module limits most) soc.modules) 0 i l at in
      let m = from_map (split_module limits most) soc.modules v.up l.core v.module_at in
      let f = from_filter is_live l.core.tests v.n l.test v.test_at in
      let there = ap (λ (m : ModuleValue). slice_get m.tests f.0) m.2 ∙ f.1 in
      let t = from_map part_test (pieces (cuts_in limits most m.0)) f.0 l.test there in
      let p = piece_from (cuts_in limits most m.0) f.0 t.0 t.1 in
      let c = in_flat_map (cuts_in limits most) soc.modules v.up p.at m.0 (t.0).0 m.1 p.there in
      let cut = cut_from limits most (m.0).number 1 (m.0).tests p.at (t.0).0 p.there in
      let home = ap (λ (d : Cut). d.whole.module) cut.is in
      let core = ap (λ (m : ModuleValue). m.number) (sym m.2) in
      record {
        piece = t.0;
        is_piece = record { at = c.0; there = c.1; within = p.within };
        id_is = ap (λ (t : Test). in_module l.core.number t.number) (sym t.2) ∙ ap (λ h. in_module h (((t.0).0).number + (t.0).1)) (core ∙ sym home);
        test_is = sym t.2;
        live = f.2;
      }

  -- so its test is live
  pub whole_live : (l : LiveTest) (v : IsLivePiece l) → is_live (v.piece).0.test ≡ true
  whole_live l v = by (is_live (v.piece).0.test) refl
    where
      by : (b : Bool) → is_live (v.piece).0.test ≡ b → b ≡ true
      by true e = refl
      by false e =
          let dead = dead_part (v.piece).0 (v.piece).1 e in
          let live : is_live (part_test v.piece) ≡ true = subst (λ (t : Test). is_live t ≡ true) v.test_is v.live in
          absurd cc

  -- ---- cut tests by name

  -- the cut test of a name
  pub named : IsSoundChip soc → (i : ℕ) (c : Cut) → slice_get cuts i ≡ Some c → cut_named cuts c.whole ≡ Some c
  named sound i c at =
      find_is (λ (d : Cut). same_test c.whole d.whole) cuts i c at (is_same_test c.whole)
      (λ j d there passes. cut_unique limits most soc sound j i d c there at (sym (same_test_is c.whole d.whole passes)))

  -- how the parts of a cut test of the chip lie
  pub lie : 1 ≤ most → (i : ℕ) (c : Cut) → slice_get cuts i ≡ Some c → AreParts c.test.patterns c.count c.size
  lie some i c at =
      let o = cut_of_chip limits most soc i c at in
      parts_of_cut limits most some o.core.number o.core.tests c o.cut

  -- a part of a cut test of the chip
  pub piece_at : (i : ℕ) (c : Cut) (k : ℕ) → slice_get cuts i ≡ Some c → k < c.count → IsPiece cuts (c, k)
  piece_at i c k at within = record { at = i; there = at; within = within }
