use Rattle.std.proofs.Common.{◌-◌, length, arith}
use Rattle.std.proofs.lemmas.Option.{slice_get-get_or}
use Rattle.limits_text.proofs.Walking.{back_more}
use Rattle.limits_text.proofs.graph.back_to.Goals as goal

pub loop-back-preserved : goal.loop-back-preserved
loop-back-preserved c =
    back_more c.args.walk.now c.loop-back.circle.items c.push.new.to.items c.loop-back.back _ c.loop-back.invariant c.in_ok-push.ensures.ok
    (slice_get-get_or c.args.walk.now (length c.args.walk.now - 1 - c.loop-back.back) 0 (omega (arith, c.loop-back-test.true, c.requires)))
