use Rattle.std.proofs.Common.{◌≡◌, ◌++◌, take}
use Rattle.plan_commands.specs.SplitText.{parts_text}
use Rattle.plan_commands.proofs.splitting.push_parts.Given as goal

abbrev pub invariant-loop-part : goal.invariant-loop-part
invariant-loop-part l = l.text.items ≡ l.initial.text.items ++ parts_text (take l.part-index l.parts)
