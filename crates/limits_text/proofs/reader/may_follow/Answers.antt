use Rattle.limits_text.proofs.WordFacts.{follows_true, follows_false}
use Rattle.limits_text.proofs.reader.may_follow.Goals as goal

pub returns-then-last-from : goal.returns-then-last-from
returns-then-last-from c = follows_true c.args.steps.now c.in-Some.field-0.now c.args.from c.in-Some.ensures.value c.if-last-from.true

pub returns-else-last-from : goal.returns-else-last-from
returns-else-last-from c = follows_false c.args.steps.now c.in-Some.field-0.now c.args.from c.in-Some.ensures.value c.if-last-from.false
