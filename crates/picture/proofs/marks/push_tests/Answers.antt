use Rattle.std.proofs.Common.{subst, sym}
use Rattle.soc_model.specs.Chips.{soc_value}
use Rattle.picture.specs.Fills.{AreStarts}
use Rattle.picture.specs.Marks.{test_text}
use Rattle.picture.proofs.marks.push_tests.Goals as goal
use Rattle.common_lemmas.proofs.Lists.{flat_more}

pub loop-one-preserved : goal.loop-one-preserved
loop-one-preserved c =
    flat_more (test_text (soc_value c.args.soc.now) c.args.panel.now c.args.drawn.now) c.args.drawn.now c.loop-one.one-index _ c.args.text.now.items c.loop-one.text.items c.push_test.new.text.items c.loop-one-test.true c.loop-one.invariant (c.in_ok-push_test.ensures c.args.drawn.now (subst (AreStarts c.args.drawn.now) (sym c.deref.ensures.value) c.in_ok-starts.ensures))
