-- The parts can have the patterns of any content of the chip that is cut: no two of them have one name.
use Rattle.std.proofs.Common.{◌≡◌, ℕ, ◌+◌, ◌-◌, Bool, false, Some, List, sym, ap, ◌∙◌, slice_get}
use Rattle.soc_model.specs.declared.TestId.{TestId}
use Rattle.soc_model.specs.Chips.{SocValue, same_test}
use Rattle.soc_model.specs.SoundChips.{IsSoundChip}
use Rattle.plan_model.specs.Cells.{Cell}
use Rattle.plan_model.specs.Plans.{LimitsValue, of_first}
use Rattle.plan_model.proofs.CertificatesAreBounds.{same_test_is, is_same_test}
use Rattle.plan_model.proofs.PlannedTests.{of_first_is}
use Rattle.split_plan.specs.declared.Part.{Part}
use Rattle.split_plan.specs.declared.cuts.Cut.{Cut}
use Rattle.split_plan.specs.Cuts.{all_cuts, live_cuts, pieces, part_at}
use Rattle.split_plan.specs.Laws.{EachContentInParts}
use Rattle.split_plan.specs.Parts.{split_parts}
use Rattle.split_plan.proofs.CutTests.{piece_from, piece_unique, IsPiece}
use Rattle.split_plan.proofs.PartLaws.{live_from_all}
use Rattle.common_lemmas.proofs.Lists.{from_map}

-- a piece of a live test is one of all pieces
live_is_piece : (cuts : List Cut) (i : ℕ) (e : Cut × ℕ) → slice_get (pieces (live_cuts cuts)) i ≡ Some e → IsPiece cuts e
live_is_piece cuts i e at =
    let q = piece_from (live_cuts cuts) i e at in
    let a = live_from_all cuts q.at e.0 q.there in
    record { at = a.0; there = a.1; within = q.within }

-- the part of that name
abbrev is_named : TestId → Part → Bool
is_named id p = same_test p.part id

-- the bits of the whole's patterns, by the names of the parts
abbrev bit_of : (TestId → ℕ → Cell → Bool) → List Part → TestId → ℕ → Cell → Bool
bit_of bits parts id k x = of_first (is_named id) (λ (p : Part). bits p.whole (p.first + k - 1) x) false parts

module _ (limits : LimitsValue) (most : ℕ) (soc : SocValue) (sound : IsSoundChip soc) where
  abbrev parts : List Part
  parts = split_parts limits most soc

  -- two parts of one name are one
  part_unique : (i j : ℕ) (p q : Part) → slice_get parts i ≡ Some p → slice_get parts j ≡ Some q → p.part ≡ q.part → p ≡ q
  part_unique i j p q at there same =
      let e = from_map part_at (pieces (live_cuts (all_cuts limits most soc))) i p at in
      let f = from_map part_at (pieces (live_cuts (all_cuts limits most soc))) j q there in
      let names = ap (λ (p : Part). p.part) e.2 ∙ same ∙ sym (ap (λ (p : Part). p.part) f.2) in
      let one = piece_unique limits most soc sound e.0 f.0 (live_is_piece (all_cuts limits most soc) i e.0 e.1) (live_is_piece (all_cuts limits most soc) j f.0 f.1) names in
      sym e.2 ∙ ap part_at one ∙ f.2

  bit_is : (bits : TestId → ℕ → Cell → Bool) (i : ℕ) (p : Part) (k : ℕ) (x : Cell) → slice_get parts i ≡ Some p →
      bit_of bits parts p.part k x ≡ bits p.whole (p.first + k - 1) x
  bit_is bits i p k x at =
      let f = of_first_is (is_named p.part) (λ (p : Part). bits p.whole (p.first + k - 1) x) false parts i p at (is_same_test p.part) in
      f.4 ∙ ap (λ (p : Part). bits p.whole (p.first + k - 1) x) (part_unique f.0 i f.1 p f.2 at (same_test_is (f.1).part p.part f.3))

  pub contents : EachContentInParts parts
  contents whole = (
    record {
      initial = λ id x. false;
      stimulus = bit_of whole.stimulus parts;
      response = bit_of whole.response parts;
    },
    record {
      stimulus = λ i p k x at some. bit_is whole.stimulus i p k x at;
      response = λ i p k x at some. bit_is whole.response i p k x at;
    },
  )
