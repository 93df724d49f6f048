use Rattle.std.proofs.Common.{inl, ◌∙◌, sym, subst, All}
use Rattle.busy_times.specs.BusyTimes.{IsClear}
use Rattle.busy_times.proofs.Spans.{same_line}
use Rattle.common_lemmas.proofs.Lists.{slice_at}
use Rattle.busy_times.proofs.timelines.after_alone.Goals as goal

pub ended_by-first-requires : goal.ended_by-first-requires
ended_by-first-requires c =
    let there = slice_at c.args.lines.now c.in-Some.at c.in-Some-get.line.now c.in-Some-get.ensures.lookup.3.0 c.in-Some-get.ensures.lookup.1 in
    rw c.as_slice-spans.ensures.value (c.requires.in_order c.in-Some.at c.in-Some-get.line.now there)

pub after_spans-requires-clause-starts : goal.after_spans-requires-clause-starts
after_spans-requires-clause-starts c =
    let there = slice_at c.args.lines.now c.in-Some.at c.in-Some-get.line.now c.in-Some-get.ensures.lookup.3.0 c.in-Some-get.ensures.lookup.1 in
    rw c.as_slice-spans.ensures.value (c.requires.starts c.in-Some.at c.in-Some-get.line.now there)

pub after_spans-requires-clause-ends : goal.after_spans-requires-clause-ends
after_spans-requires-clause-ends c =
    let there = slice_at c.args.lines.now c.in-Some.at c.in-Some-get.line.now c.in-Some-get.ensures.lookup.3.0 c.in-Some-get.ensures.lookup.1 in
    rw c.as_slice-spans.ensures.value (c.requires.ends c.in-Some.at c.in-Some-get.line.now there)

pub returns-clause-clear : goal.returns-clause-clear
returns-clause-clear c k line place_is line_at =
    let there = slice_at c.args.lines.now c.in-Some.at c.in-Some-get.line.now c.in-Some-get.ensures.lookup.3.0 c.in-Some-get.ensures.lookup.1 in
    let same = same_line c.args.lines.now c.args.place c.in-Some.at k c.in-Some-get.line.now line c.in-Some.is there place_is line_at in
    rw (c.as_slice-spans.ensures.value ∙ sym same) at c.after_spans.ensures.clear

pub returns-clause-least : goal.returns-clause-least
returns-clause-least c other later free =
    let there = slice_at c.args.lines.now c.in-Some.at c.in-Some-get.line.now c.in-Some-get.ensures.lookup.3.0 c.in-Some-get.ensures.lookup.1 in
    c.after_spans.ensures.least other later (rw c.as_slice-spans.ensures.value (free c.in-Some.at c.in-Some-get.line.now c.in-Some.is there))

pub all_end_by-requires : goal.all_end_by-requires
all_end_by-requires c =
    let there = slice_at c.args.lines.now c.in-Some.at c.in-Some-get.line.now c.in-Some-get.ensures.lookup.3.0 c.in-Some-get.ensures.lookup.1 in
    rw c.as_slice-spans.ensures.value (c.requires.in_order c.in-Some.at c.in-Some-get.line.now there)

pub returns-then-all_end_by-clause-clear : goal.returns-then-all_end_by-clause-clear
returns-then-all_end_by-clause-clear c k line place_is line_at =
    let there = slice_at c.args.lines.now c.in-Some.at c.in-Some-get.line.now c.in-Some-get.ensures.lookup.3.0 c.in-Some-get.ensures.lookup.1 in
    let same = same_line c.args.lines.now c.args.place c.in-Some.at k c.in-Some-get.line.now line c.in-Some.is there place_is line_at in
    subst (All (IsClear c.args.length c.args.start)) (c.as_slice-spans.ensures.value ∙ sym same) (λ j d lt. inl ((c.all_end_by.ensures c.if-all_end_by.true) j d lt))
