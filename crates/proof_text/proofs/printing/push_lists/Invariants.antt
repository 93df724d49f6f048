use Rattle.std.proofs.Common.{◌≡◌, ◌++◌, map, drop}
use Rattle.keyword_text.specs.Lines.{text_of}
use Rattle.plan_model.specs.Proofs.{list_value}
use Rattle.proof_text.specs.Tokens.{spelling}
use Rattle.proof_text.specs.ProofLines.{list_line}
use Rattle.proof_text.proofs.printing.push_lists.Given as goal

abbrev pub invariant-loop-list : goal.invariant-loop-list
invariant-loop-list l = l.to.items ++ text_of spelling (map list_line (map list_value (drop l.list-index l.lists))) ≡ l.fn.to.items ++ text_of spelling (map list_line (map list_value l.lists))
