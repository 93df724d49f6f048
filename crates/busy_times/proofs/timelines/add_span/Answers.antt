use Rattle.busy_times.proofs.Spans.{line_put}
use Rattle.busy_times.proofs.timelines.add_span.Goals as goal
use Rattle.common_lemmas.proofs.Lists.{slice_at}

pub put_span-requires-clause-ordered : goal.put_span-requires-clause-ordered
put_span-requires-clause-ordered c =
    let inside = rw c.in-Some.is at c.requires.inside in
    c.requires.starts c.in-Some.at c.index_mut.result.now c.in-Some.is (slice_at c.args.lines.now.items c.in-Some.at c.index_mut.result.now inside c.index_mut.ensures.value)

pub returns-in-Some : goal.returns-in-Some
returns-in-Some c =
    let inside = rw c.in-Some.is at c.requires.inside in
    line_put c.args.lines.now.items c.args.place c.in-Some.at c.index_mut.result.now c.in-Some.is (slice_at c.args.lines.now.items c.in-Some.at c.index_mut.result.now inside c.index_mut.ensures.value) (record { spans = c.put_span.new.spans }) c.args.span c.put_span.ensures.put c.put_span.ensures.capacity
