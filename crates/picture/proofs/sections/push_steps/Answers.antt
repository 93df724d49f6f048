use Rattle.picture.specs.PictureText.{step_text}
use Rattle.picture.proofs.sections.push_steps.Goals as goal
use Rattle.common_lemmas.proofs.Lists.{flat_more}

pub loop-step-preserved : goal.loop-step-preserved
loop-step-preserved c =
    flat_more (step_text c.args.top c.args.cycles c.args.most) c.args.steps.now c.loop-step.step-index _ c.args.text.now.items c.loop-step.text.items c.push_step.new.text.items c.loop-step-test.true c.loop-step.invariant c.in_ok-push_step.ensures
