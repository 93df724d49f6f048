use Rattle.busy_times.proofs.Spans.{line_taken}
use Rattle.busy_times.proofs.timelines.remove_span.Goals as goal
use Rattle.common_lemmas.proofs.Lists.{slice_at}

pub take_span-requires-clause-ordered : goal.take_span-requires-clause-ordered
take_span-requires-clause-ordered c =
    let inside = rw c.in-Some.is at c.requires.inside in
    c.requires.starts c.in-Some.at c.index_mut.result.now c.in-Some.is (slice_at c.args.lines.now.items c.in-Some.at c.index_mut.result.now inside c.index_mut.ensures.value)

pub returns-in-Some : goal.returns-in-Some
returns-in-Some c =
    let inside = rw c.in-Some.is at c.requires.inside in
    line_taken c.args.lines.now.items c.args.place c.in-Some.at c.index_mut.result.now c.in-Some.is (slice_at c.args.lines.now.items c.in-Some.at c.index_mut.result.now inside c.index_mut.ensures.value) (record { spans = c.take_span.new.spans }) c.args.span c.take_span.ensures.taken c.take_span.ensures.capacity

pub take_span-requires-clause-there : goal.take_span-requires-clause-there
take_span-requires-clause-there c =
    let inside = rw c.in-Some.is at c.requires.inside in
    c.requires.there c.in-Some.at c.index_mut.result.now c.in-Some.is (slice_at c.args.lines.now.items c.in-Some.at c.index_mut.result.now inside c.index_mut.ensures.value)
