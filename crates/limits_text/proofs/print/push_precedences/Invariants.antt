use Rattle.std.proofs.Common.{◌≡◌, ◌++◌, take, flat_map}
use Rattle.limits_text.specs.Texts.{before_line}
use Rattle.limits_text.proofs.print.push_precedences.Given as goal

abbrev pub invariant-loop-first : goal.invariant-loop-first
invariant-loop-first l = l.to.items ≡ l.initial.to.items ++ flat_map before_line (take l.first-index l.before)
