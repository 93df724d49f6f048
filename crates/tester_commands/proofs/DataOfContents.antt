-- What the data of contents is.
use Rattle.soc_model.specs.Chips.{SocValue}
use Rattle.soc_model.specs.SoundChips.{IsSoundChip}
use Rattle.plan_model.specs.Runs.{Content}
use Rattle.tester_commands.specs.ContentEntries.{entries_of}
use Rattle.tester_commands.specs.ContentData.{IsDataOf}
use Rattle.tester_commands.proofs.ReadBack.{text_says}
use Rattle.tester_commands.proofs.SuitingEntries.{no_misfit, data_suits, small_names, content_agrees}

pub data_of : (soc : SocValue) (content : Content) → IsSoundChip soc → IsDataOf soc content
data_of soc content sound = record {
  read_back = text_says (entries_of soc content) (small_names soc content sound);
  no_misfit = no_misfit soc content sound;
  suits = data_suits soc content sound;
  agrees = content_agrees soc content sound;
}
