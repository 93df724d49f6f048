use Rattle.std.proofs.Common.{◌≤◌, ◌∙◌, subst}
use Rattle.width_table.specs.Tables.{time_of}
use Rattle.report.proofs.Faster.{not_at}
use Rattle.report.proofs.modules.first_faster.Goals as goal

pub loop-width-preserved : goal.loop-width-preserved
loop-width-preserved c =
    not_at (time_of c.args.table.now c.args.place) c.args.bound c.loop-width.width c.args.end c.loop-width-test.true
    (subst (λ n. c.args.bound ≤ n) c.time.ensures.time c.if-time-bound.false) ∙ c.loop-width.invariant
