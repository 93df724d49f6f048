use Rattle.std.proofs.Common.{◌∙◌, ap, ◌&&◌, codes}
use Rattle.commands.specs.Texts.{no_feed, spaced_test}
use Rattle.commands.proofs.LineFacts.{flat_more}
use Rattle.common_lemmas.proofs.Lists.{joined_before}
use Rattle.commands.proofs.lines.push_tests.Goals as goal

pub loop-test-preserved : goal.loop-test-preserved
loop-test-preserved c = (
  flat_more spaced_test c.args.tests.now c.loop-test.test-index _ c.args.to.now.items c.loop-test.to.items c.push_test.new.to.items c.loop-test-test.true c.loop-test.invariant.0 (joined_before _ _ _ _ _ c.in_ok-push_test.ensures.text c.in_ok-push_text.ensures.text),
  λ plain. c.in_ok-push_test.ensures.plain (c.in_ok-push_text.ensures.plain ∙ ap (λ p. p && no_feed (codes " ")) (c.loop-test.invariant.1 plain)),
)
