use Rattle.std.proofs.Common.{refl}
use Rattle.limits_text.proofs.Walking.{lowered_none, lowered_more, lowered_all}
use Rattle.limits_text.proofs.graph.least_before.Goals as goal

pub loop-first-init : goal.loop-first-init
loop-first-init c = lowered_none c.args.gone.now c.in_ok-least.least.items c.args.pairs.now c.in_ok-least.ensures

pub loop-first-preserved : goal.loop-first-preserved
loop-first-preserved c = lowered_more c.args.gone.now c.loop-first.least.items c.lower_least.new.least.items c.args.pairs.now c.loop-first.first-index _ c.loop-first.invariant c.loop-first-test.true c.requires.within refl c.lower_least.ensures

pub returns-clause-small : goal.returns-clause-small
returns-clause-small c = (lowered_all c.args.gone.now c.loop-first.least.items c.args.pairs.now c.loop-first.first-index c.requires.some c.loop-first.invariant c.loop-first-test.false).0

pub returns-clause-least : goal.returns-clause-least
returns-clause-least c = (lowered_all c.args.gone.now c.loop-first.least.items c.args.pairs.now c.loop-first.first-index c.requires.some c.loop-first.invariant c.loop-first-test.false).1
