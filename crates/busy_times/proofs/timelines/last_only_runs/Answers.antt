use Rattle.std.proofs.Common.{leb-true}
use Rattle.busy_times.proofs.Spans.{last_runs}
use Rattle.busy_times.proofs.timelines.last_only_runs.Goals as goal

pub returns-clause-parts : goal.returns-clause-parts
returns-clause-parts c ended = last_runs c.args.spans.now c.args.cycle (record { from = 0; to = 0 }) c.requires c.if-count-lt2.false c.if-spans-count.false (leb-true _ _ ended)
