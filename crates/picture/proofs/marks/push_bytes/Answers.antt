use Rattle.picture.specs.Marks.{escaped}
use Rattle.picture.proofs.marks.push_bytes.Goals as goal
use Rattle.common_lemmas.proofs.Lists.{flat_more}

pub loop-byte-preserved : goal.loop-byte-preserved
loop-byte-preserved c =
    flat_more escaped c.args.name.now c.loop-byte.byte-index _ c.args.text.now.items c.loop-byte.text.items c.push_escaped.new.text.items c.loop-byte-test.true c.loop-byte.invariant c.in_ok-push_escaped.ensures
