use Rattle.std.proofs.Common.{◌≤◌, length, arith}
use Rattle.outside.specs.Words.{words_of}
use Rattle.outside.specs.Grammars.{last_line}
use Rattle.outside.proofs.WordCounts.{words-length}
use Rattle.outside.proofs.Progress.{goes_on, front_fits, refused_here, all_read, refused_early}
use Rattle.outside.proofs.reading.read_text.Goals as goal

pub returns-in-Err-Refused : goal.returns-in-Err-Refused
returns-in-Err-Refused g c =
    let p = c.loop-word.invariant in
    let few : length (words_of c.args.bytes.now) ≤ g.R.Reader.most = omega (arith, words-length c.args.bytes.now, c.requires.few) in
    refused_here g.R.Reader.whole (g.R.Reader.has_read c.loop-word.reader) (words_of c.args.bytes.now) c.loop-word.words c.next.new.self (c.in-Some.word.bytes.now, c.in-Some.word.line) (last_line c.args.bytes.now) p c.in-Some.ensures
    (rw c.in-Err-Refused.field-0-is at (c.in-Err-Refused.ensures p.front (front_fits (g.R.Reader.has_read c.loop-word.reader) g.R.Reader.most (words_of c.args.bytes.now) c.loop-word.words few p) p.read))

pub loop-word-preserved : goal.loop-word-preserved
loop-word-preserved g c =
    let p = c.loop-word.invariant in
    let few : length (words_of c.args.bytes.now) ≤ g.R.Reader.most = omega (arith, words-length c.args.bytes.now, c.requires.few) in
    goes_on (g.R.Reader.has_read c.loop-word.reader) (g.R.Reader.has_read c.in-Ok.next) (words_of c.args.bytes.now) c.loop-word.words c.next.new.self (c.in-Some.word.bytes.now, c.in-Some.word.line) p c.in-Some.ensures
    (c.in-Ok.ensures p.front (front_fits (g.R.Reader.has_read c.loop-word.reader) g.R.Reader.most (words_of c.args.bytes.now) c.loop-word.words few p) p.read)

pub returns-in-Ok-end : goal.returns-in-Ok-end
returns-in-Ok-end g c =
    let few : length (words_of c.args.bytes.now) ≤ g.R.Reader.most = omega (arith, words-length c.args.bytes.now, c.requires.few) in
    c.in-Ok-end.ensures (words_of c.args.bytes.now) few (all_read (g.R.Reader.has_read c.loop-word.reader) (words_of c.args.bytes.now) c.loop-word.words c.loop-word.invariant c.in_default.ensures.0)

pub returns-in-Err-Refused-end : goal.returns-in-Err-Refused-end
returns-in-Err-Refused-end g c =
    let few : length (words_of c.args.bytes.now) ≤ g.R.Reader.most = omega (arith, words-length c.args.bytes.now, c.requires.few) in
    rw c.end_line.ensures
    (refused_early g.R.Reader.whole (words_of c.args.bytes.now) (last_line c.args.bytes.now)
    (rw c.in-Err-Refused-end.field-0-is at (c.in-Err-Refused-end.ensures (words_of c.args.bytes.now) few (all_read (g.R.Reader.has_read c.loop-word.reader) (words_of c.args.bytes.now) c.loop-word.words c.loop-word.invariant c.in_default.ensures.0))))
