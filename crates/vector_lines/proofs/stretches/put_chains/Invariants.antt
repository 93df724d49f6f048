use Rattle.vector_lines.specs.Vectors.{AreChainsPut}
use Rattle.vector_lines.proofs.stretches.put_chains.Given as goal

abbrev pub invariant-loop-chain : goal.invariant-loop-chain
invariant-loop-chain g l = AreChainsPut (g.C.Contents.drive l.contents l.lane.key) (g.C.Contents.mark l.contents l.lane.key) l.lane.paths.items l.chain l.wires l.row l.stretch.count l.lane.first_wire l.stretch.ahead l.stretch.behind l.initial.text l.text
