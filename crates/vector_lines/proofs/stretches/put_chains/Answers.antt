use Rattle.std.proofs.Common.{arith}
use Rattle.vector_lines.proofs.ShiftStretches.{no_chains, chain_more}
use Rattle.vector_lines.proofs.stretches.put_chains.Goals as goal
use Rattle.common_lemmas.proofs.Lists.{slice_at}

pub loop-chain-init : goal.loop-chain-init
loop-chain-init g c = no_chains c.args.wires c.args.row c.args.stretch.count c.args.text.now (g.C.Contents.drive c.args.contents.now c.args.lane.now.key)
    (g.C.Contents.mark c.args.contents.now c.args.lane.now.key) c.args.lane.now.paths.items c.args.lane.now.first_wire c.args.stretch.ahead c.args.stretch.behind

pub loop-chain-preserved : goal.loop-chain-preserved
loop-chain-preserved g c =
    chain_more (slice_at c.args.lane.now.paths.items c.loop-chain.chain c.index-path.result.now (omega (arith, c.loop-chain-test.true, c.len-chain-end.ensures)) c.index-path.ensures)
    (omega (arith, c.requires.columns, c.loop-chain-test.true, c.len-chain-end.ensures)) c.loop-chain.invariant c.put_load.ensures.long c.put_load.ensures.driven c.put_load.ensures.others c.put_answer.ensures.long c.put_answer.ensures.read c.put_answer.ensures.others
