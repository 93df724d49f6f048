use Rattle.std.proofs.Common.{◌∙◌, ◌-◌, length, sym}
use Rattle.busy_times.proofs.Spans.{last_taken}
use Rattle.busy_times.proofs.timelines.take_span.Goals as goal

pub returns-then-stands_last-clause-taken : goal.returns-then-stands_last-clause-taken
returns-then-stands_last-clause-taken c = record {
  place = length c.args.spans.now.items - 1;
  there = rw c.deref.ensures.value at (c.stands_last.ensures c.if-stands_last.true);
  is = c.take_last.ensures.items ∙ sym (last_taken c.args.spans.now.items);
}
