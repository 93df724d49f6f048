use Rattle.std.proofs.Common.{arith}
use Rattle.busy_times.specs.declared.timelines.Span.{Span}
use Rattle.busy_times.proofs.Spans.{last_most}
use Rattle.busy_times.proofs.timelines.all_start_before.Goals as goal

pub returns : goal.returns
returns c _ k d lt =
    omega (arith, last_most (λ (s : Span). s.from) c.args.spans.now k d (record { from = 0; to = 0 }) c.requires lt, c.if-spans-count.false)
