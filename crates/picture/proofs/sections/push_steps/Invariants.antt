use Rattle.std.proofs.Common.{◌≡◌, ◌++◌, take, flat_map}
use Rattle.picture.specs.PictureText.{step_text}
use Rattle.picture.proofs.sections.push_steps.Given as goal

abbrev pub invariant-loop-step : goal.invariant-loop-step
invariant-loop-step l = l.text.items ≡ l.initial.text.items ++ flat_map (step_text l.top l.cycles l.most) (take l.step-index l.steps)
