use Rattle.std.proofs.Common.{Some, ◌∙◌, refl, sym}
use Rattle.busy_times.proofs.Spans.{same_line}
use Rattle.common_lemmas.proofs.Lists.{slice_at}
use Rattle.busy_times.proofs.timelines.after_together.Goals as goal

pub after_spans-requires-clause-starts : goal.after_spans-requires-clause-starts
after_spans-requires-clause-starts c =
    let there = slice_at c.args.lines.now c.args.place c.in-Some.line.now c.in-Some.ensures.lookup.3.0 c.in-Some.ensures.lookup.1 in
    rw c.deref.ensures.value (c.requires.starts c.args.place c.in-Some.line.now there)

pub after_spans-requires-clause-ends : goal.after_spans-requires-clause-ends
after_spans-requires-clause-ends c =
    let there = slice_at c.args.lines.now c.args.place c.in-Some.line.now c.in-Some.ensures.lookup.3.0 c.in-Some.ensures.lookup.1 in
    rw c.deref.ensures.value (c.requires.ends c.args.place c.in-Some.line.now there)

pub returns-clause-clear : goal.returns-clause-clear
returns-clause-clear c k line place_is line_at =
    let there = slice_at c.args.lines.now c.args.place c.in-Some.line.now c.in-Some.ensures.lookup.3.0 c.in-Some.ensures.lookup.1 in
    let same = same_line c.args.lines.now (Some c.args.place) c.args.place k c.in-Some.line.now line refl there place_is line_at in
    rw (c.deref.ensures.value ∙ sym same) at c.after_spans.ensures.clear

pub returns-clause-least : goal.returns-clause-least
returns-clause-least c other later free =
    let there = slice_at c.args.lines.now c.args.place c.in-Some.line.now c.in-Some.ensures.lookup.3.0 c.in-Some.ensures.lookup.1 in
    c.after_spans.ensures.least other later (rw c.deref.ensures.value (free c.args.place c.in-Some.line.now refl there))
