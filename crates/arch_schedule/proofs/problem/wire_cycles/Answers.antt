use Rattle.std.proofs.Common.{◌∙◌, length-set}
use Rattle.arch_schedule.proofs.problem.wire_cycles.Goals as goal

pub loop-width-preserved : goal.loop-width-preserved
loop-width-preserved c = length-set c.loop-width.row.items c.loop-width.width c.cycles_of.result ∙ c.loop-width.invariant
