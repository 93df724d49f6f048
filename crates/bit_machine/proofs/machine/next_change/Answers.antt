use Rattle.std.proofs.Common.{◌<◌, length, arith}
use Rattle.std.proofs.lemmas.Option.{slice_get_within}
use Rattle.bit_machine.proofs.Assigning.{sooner_more}
use Rattle.bit_machine.proofs.machine.next_change.Goals as goal
use Rattle.common_lemmas.proofs.Lists.{slice_at}

pub loop-stepped-preserved : goal.loop-stepped-preserved
loop-stepped-preserved c =
    sooner_more c.args.lanes.now c.args.cycle c.loop-stepped.stepped-index c.loop-stepped.change c.sooner-change.result
    (slice_at c.args.lanes.now c.loop-stepped.stepped-index c.stepped-item.result c.loop-stepped-test.true c.stepped-item.is) c.sooner-change.ensures.most c.sooner-change.ensures.lane c.loop-stepped.invariant

pub returns : goal.returns
returns c = λ i l at.
    let within : i < length c.args.lanes.now = slice_get_within c.args.lanes.now i l at in
    c.loop-stepped.invariant i l (omega (arith, c.loop-stepped-test.false)) at
