-- The made contents of a seed stand for the tests of a chip.
use Rattle.std.proofs.Common.{◌≡◌, ℕ, Some, ap, sym, ◌∙◌, slice_get}
use Rattle.soc_model.specs.Chips.{SocValue, LiveTest, live_tests, id_of}
use Rattle.soc_model.specs.SoundChips.{IsSoundChip}
use Rattle.plan_model.specs.Cells.{Cell}
use Rattle.vector_lines.specs.Made.{made_content, made_stimulus, made_response, made_drive, made_keys, made_mark, made_from}
use Rattle.vector_lines.specs.Marks.{digit, response_digits}
use Rattle.vector_lines.specs.Placed.{key_of, lengths_of, inputs_of, StandFor}
use Rattle.vector_lines.proofs.MadeBits.{made_from_is}
use Rattle.vector_lines.proofs.PlacedLanes.{live_content}
use Rattle.vector_lines.specs.Paths.{numbered_stimulus}
use Rattle.vector_lines.specs.Places.{response_place}

module _ {soc : SocValue} (sound : IsSoundChip soc) (seed i : ℕ) {l : LiveTest} (at : slice_get (live_tests soc) i ≡ Some l) (k : ℕ) (x : Cell) where
  pub made_stimulus_is : (made_content soc seed).stimulus (id_of l) k x ≡ numbered_stimulus (made_drive (key_of (made_keys seed) l)) (inputs_of l) (lengths_of l) k x
  unfolding made_content
  made_stimulus_is = live_content sound i at (λ l. made_stimulus seed l k x) ∙ sym (made_from_is seed l.place _ k _ 0)

  pub made_response_is : (made_content soc seed).response (id_of l) k x ≡ made_from (key_of (made_keys seed) l) k (response_place (lengths_of l) x) 1
  unfolding made_content
  made_response_is = live_content sound i at (λ l. made_response seed l k x) ∙ sym (made_from_is seed l.place _ k _ 1)

pub made_stand : (soc : SocValue) (seed : ℕ) → IsSoundChip soc → StandFor (made_keys seed) made_drive made_mark soc (made_content soc seed) (response_digits (made_content soc seed))
made_stand soc seed sound = record {
  stimulus = λ i l at tam k x. made_stimulus_is sound seed i at k x;
  answers = λ i l at tam k x. ap digit (made_response_is sound seed i at k x);
}
