use Rattle.limits_text.proofs.Printing.{steps_more}
use Rattle.limits_text.proofs.print.push_steps.Goals as goal

pub loop-from-preserved : goal.loop-from-preserved
loop-from-preserved c = steps_more c.args.to.now.items c.loop-from.to.items c.push_spaced.new.to.items c.push_spaced-in-loop-from.new.to.items c.args.steps.now c.loop-from.from-index c.loop-from-test.true c.loop-from.invariant c.in_ok-push_spaced.ensures.ok c.in_ok-push_spaced-2.ensures.ok
