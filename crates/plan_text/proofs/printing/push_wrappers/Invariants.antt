use Rattle.std.proofs.Common.{◌≡◌, ◌++◌, map, drop}
use Rattle.std.specs.List.{flat_map}
use Rattle.plan_model.specs.Views.{wrapper_value}
use Rattle.keyword_text.specs.Lines.{text_of}
use Rattle.plan_text.specs.Tokens.{spelling}
use Rattle.plan_text.specs.PlanLines.{wrapper_lines}
use Rattle.plan_text.proofs.printing.push_wrappers.Given as goal

abbrev pub invariant-loop-wrapper : goal.invariant-loop-wrapper
invariant-loop-wrapper l = l.to.items ++ text_of spelling (flat_map wrapper_lines (map wrapper_value (drop l.wrapper-index l.wrappers))) ≡ l.fn.to.items ++ text_of spelling (flat_map wrapper_lines (map wrapper_value l.wrappers))
