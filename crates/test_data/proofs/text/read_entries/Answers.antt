use Rattle.std.proofs.Common.{◌+◌, ◌-◌, ◌<◌, [], refl, drop, length, arith}
use Rattle.outside.specs.Words.{words_of, words_left}
use Rattle.outside.specs.Grammars.{last_line}
use Rattle.outside.proofs.Progress.{goes_on, refused_here, all_read, refused_early}
use Rattle.test_data.specs.DataWords.{InData}
use Rattle.test_data.specs.DataReads.{IsAfterWords}
use Rattle.test_data.specs.DataPlaces.{kept_entries, state_in, word_at}
use Rattle.test_data.proofs.ReadSteps.{read_more, stops, ends_early}
use Rattle.test_data.proofs.ReadTexts.{text_read}
use Rattle.test_data.proofs.text.read_entries.Goals as goal

pub loop-spot-preserved : goal.loop-spot-preserved
loop-spot-preserved c =
    let bytes = c.args.bytes.now in
    let spot = c.in-Some.spot in
    let next = c.in-Some.ensures in
    let p = c.loop-spot.invariant.read in
    record {
      read = goes_on (IsAfterWords (state_in bytes c.loop-spot.text)) (IsAfterWords (state_in bytes c.in-Ok.next)) (words_of bytes) (words_left c.loop-spot.line (drop c.loop-spot.place bytes))
          (words_left spot.line (drop (spot.from + spot.len) bytes)) (word_at bytes spot, spot.line) p next.words
          (read_more (state_in bytes c.loop-spot.text) (state_in bytes c.in-Ok.next) p.front (word_at bytes spot, spot.line) p.read c.in-Ok.ensures);
      within = next.spot.ends;
      small = next.small;
    }

pub loop-spot-init : goal.loop-spot-init
loop-spot-init c = record { read = record { front = []; words = refl; read = refl }; within = omega arith; small = omega (arith, c.requires) }

pub loop-spot-smaller : goal.loop-spot-smaller
loop-spot-smaller c =
    let bytes = c.args.bytes.now in
    let spot = c.in-Some.spot in
    let next = c.in-Some.ensures in
    let smaller : length bytes - (spot.from + spot.len) < length bytes - c.loop-spot.place = omega (arith, next.later, next.spot.some, next.spot.ends) in
    smaller

pub returns-in-Err-Refused : goal.returns-in-Err-Refused
returns-in-Err-Refused c =
    let bytes = c.args.bytes.now in
    let spot = c.in-Some.spot in
    let p = c.loop-spot.invariant.read in
    refused_here InData (IsAfterWords (state_in bytes c.loop-spot.text)) (words_of bytes) (words_left c.loop-spot.line (drop c.loop-spot.place bytes)) (words_left spot.line (drop (spot.from + spot.len) bytes))
    (word_at bytes spot, spot.line) (last_line bytes) p c.in-Some.ensures.words
    (stops (state_in bytes c.loop-spot.text) p.front (word_at bytes spot, spot.line) p.read (rw c.in-Err-Refused.field-0-is at c.in-Err-Refused.ensures))

pub returns-in-Ok-ended_text : goal.returns-in-Ok-ended_text
returns-in-Ok-ended_text c =
    let bytes = c.args.bytes.now in
    let s = state_in bytes c.loop-spot.text in
    text_read s (kept_entries bytes c.in-Ok-ended_text.entries) (words_of bytes)
    (all_read (IsAfterWords s) (words_of bytes) (words_left c.loop-spot.line (drop c.loop-spot.place bytes)) c.loop-spot.invariant.read c.in_default.ensures) (c.in-Ok-ended_text.ensures bytes)

pub returns-in-Err-Refused-ended_text : goal.returns-in-Err-Refused-ended_text
returns-in-Err-Refused-ended_text c =
    let bytes = c.args.bytes.now in
    let s = state_in bytes c.loop-spot.text in
    rw c.end_line.ensures
    (refused_early InData (words_of bytes) (last_line bytes)
    (ends_early s (words_of bytes)
    (all_read (IsAfterWords s) (words_of bytes) (words_left c.loop-spot.line (drop c.loop-spot.place bytes)) c.loop-spot.invariant.read c.in_default.ensures)
    (rw c.in-Err-Refused-ended_text.field-0-is at (c.in-Err-Refused-ended_text.ensures bytes))))
