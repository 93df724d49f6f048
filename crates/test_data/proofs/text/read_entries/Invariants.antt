use Rattle.std.proofs.Common.{◌+◌, ◌-◌, ◌<◌, ◌≤◌, ◌^◌, length, drop}
use Rattle.outside.specs.Words.{words_of, words_left}
use Rattle.outside.proofs.Progress.{Progress}
use Rattle.test_data.specs.DataReads.{IsAfterWords}
use Rattle.test_data.specs.DataPlaces.{state_in}
use Rattle.test_data.proofs.text.read_entries.Given as goal

abbrev pub invariant-loop-spot : goal.invariant-loop-spot
invariant-loop-spot l = record {
  read : Progress (IsAfterWords (state_in l.bytes l.text)) (words_of l.bytes) (words_left l.line (drop l.place l.bytes));
  within : l.place ≤ length l.bytes;
  small : l.line + length (drop l.place l.bytes) < 2 ^ 64;
}

abbrev pub decreases-loop-spot : goal.decreases-loop-spot
decreases-loop-spot l = length l.bytes - l.place
