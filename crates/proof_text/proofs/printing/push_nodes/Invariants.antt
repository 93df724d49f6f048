use Rattle.std.proofs.Common.{◌≡◌, ◌++◌, map, drop}
use Rattle.keyword_text.specs.Lines.{text_of}
use Rattle.plan_model.specs.Proofs.{node_value}
use Rattle.proof_text.specs.Tokens.{spelling}
use Rattle.proof_text.specs.ProofLines.{node_line}
use Rattle.proof_text.proofs.printing.push_nodes.Given as goal

abbrev pub invariant-loop-node : goal.invariant-loop-node
invariant-loop-node l = l.to.items ++ text_of spelling (map node_line (map node_value (drop l.node-index l.nodes))) ≡ l.fn.to.items ++ text_of spelling (map node_line (map node_value l.nodes))
