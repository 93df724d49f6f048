use Rattle.std.proofs.Common.{List, length, refl, arith}
use Rattle.outside.specs.Words.{words_of}
use Rattle.outside.specs.Grammars.{last_line}
use Rattle.outside.proofs.Refusals.{whole_or_refused}
use Rattle.outside.proofs.Runs.{run_decides}
use Rattle.test_data.specs.DataWords.{InData, EntryValue}
use Rattle.test_data.specs.DataReads.{State, empty, after, ended, IsAfterWords}
use Rattle.test_data.proofs.ReadTexts.{fits}
use Rattle.test_data.proofs.laws.each_text_is_answered.Goals as goal

pub returns : goal.returns
returns c = λ bytes.
    let most = length (words_of bytes) in
    whole_or_refused InData most State IsAfterWords (run_decides InData most State (List EntryValue) after ended empty (fits most)) (last_line bytes) empty (words_of bytes) refl (omega arith)
