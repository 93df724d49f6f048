use Rattle.std.proofs.Common.{arith}
use Rattle.proof_facts.proofs.FrontSums.{window_is}
use Rattle.proof_facts.proofs.lengths.window.Goals as goal

pub overflow_sub-result : goal.overflow_sub-result
overflow_sub-result c = omega (arith, window_is c.args.sorted.now c.args.fronts.now c.args.width c.args.k c.requires.fronts c.requires.some_wire c.requires.within)

pub returns : goal.returns
returns c = omega (arith, window_is c.args.sorted.now c.args.fronts.now c.args.width c.args.k c.requires.fronts c.requires.some_wire c.requires.within)
