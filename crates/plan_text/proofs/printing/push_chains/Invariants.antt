use Rattle.std.proofs.Common.{◌≡◌, ◌++◌, map, drop}
use Rattle.plan_model.specs.Views.{chain_value}
use Rattle.keyword_text.specs.Lines.{text_of}
use Rattle.plan_text.specs.Tokens.{spelling}
use Rattle.plan_text.specs.PlanLines.{chain_line}
use Rattle.plan_text.proofs.printing.push_chains.Given as goal

abbrev pub invariant-loop-chain : goal.invariant-loop-chain
invariant-loop-chain l = l.to.items ++ text_of spelling (map chain_line (map chain_value (drop l.chain-index l.chains))) ≡ l.fn.to.items ++ text_of spelling (map chain_line (map chain_value l.chains))
