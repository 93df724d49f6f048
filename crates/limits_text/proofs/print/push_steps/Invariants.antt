use Rattle.std.proofs.Common.{◌≡◌, ◌++◌, take}
use Rattle.limits_text.specs.Texts.{step_fields}
use Rattle.limits_text.proofs.print.push_steps.Given as goal

abbrev pub invariant-loop-from : goal.invariant-loop-from
invariant-loop-from l = l.to.items ≡ l.initial.to.items ++ step_fields (take l.from-index l.steps)
