use Rattle.std.proofs.Common.{◌≡◌, ◌++◌, drop, flat_map}
use Rattle.keyword_text.specs.Lines.{spaced}
use Rattle.proof_text.specs.Tokens.{spelling}
use Rattle.proof_text.specs.ProofLines.{use_tokens}
use Rattle.proof_text.proofs.printing.push_uses.Given as goal

abbrev pub invariant-loop-list : goal.invariant-loop-list
invariant-loop-list l = l.to.items ++ spaced spelling (flat_map use_tokens (drop l.list-index l.uses)) ≡ l.fn.to.items ++ spaced spelling (flat_map use_tokens l.uses)
