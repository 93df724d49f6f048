use Rattle.std.proofs.Common.{◌+◌, length, arith}
use Rattle.controls.proofs.Marking.{ones_more, place-lt}
use Rattle.controls.proofs.columns.put_ones.Goals as goal

pub loop-below-preserved : goal.loop-below-preserved
loop-below-preserved c =
    let there = place-lt (c.args.row + c.loop-below.below) (c.args.row + c.args.count) c.args.columns c.args.column (length c.args.text.now) (omega (arith, c.loop-below-test.true)) c.requires.column c.requires.rows in
    ones_more c.args.column c.requires.column (omega (arith, there, c.loop-below.invariant.long)) c.loop-below.invariant
