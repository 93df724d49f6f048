use Rattle.std.proofs.Common.{◌≡◌, ◌++◌, map, drop}
use Rattle.keyword_text.specs.Lines.{text_of}
use Rattle.plan_text.specs.Tokens.{spelling}
use Rattle.plan_text.specs.PlanLines.{start_line}
use Rattle.plan_text.proofs.printing.push_starts.Given as goal

abbrev pub invariant-loop-start : goal.invariant-loop-start
invariant-loop-start l = l.to.items ++ text_of spelling (map start_line (drop l.start-index l.starts)) ≡ l.fn.to.items ++ text_of spelling (map start_line l.starts)
