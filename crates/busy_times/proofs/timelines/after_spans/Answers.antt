use Rattle.busy_times.proofs.Spans.{clear_between}
use Rattle.busy_times.proofs.timelines.after_spans.Goals as goal

pub returns-then-next-length-clause-clear : goal.returns-then-next-length-clause-clear
returns-then-next-length-clause-clear c =
    clear_between c.args.spans.now c.args.length c.loop-place.next c.loop-place.place (record { from = 0; to = 0 }) c.requires.starts c.loop-place.invariant.ended c.loop-place-test.true c.if-next-length.true
