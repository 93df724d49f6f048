use Rattle.std.proofs.Common.{arith}
use Rattle.std.proofs.lemmas.Result.{IfOk-weaker}
use Rattle.vector_lines.proofs.PlacedLanes.{layout_paths, terminals}
use Rattle.vector_lines.proofs.placing.wrapped_paths.Goals as goal

pub paths_of-requires-clause-ins : goal.paths_of-requires-clause-ins
paths_of-requires-clause-ins c =
    let t = terminals c.in_ok-layout.layout.chains.items c.requires.proper c.in_ok-layout.ensures.chains in
    omega (arith, t.0, c.requires.small)

pub paths_of-requires-clause-outs : goal.paths_of-requires-clause-outs
paths_of-requires-clause-outs c =
    let t = terminals c.in_ok-layout.layout.chains.items c.requires.proper c.in_ok-layout.ensures.chains in
    omega (arith, t.1, c.requires.small)

pub returns : goal.returns
returns c = IfOk-weaker c.paths_of.result _ _
    (λ paths made. layout_paths c.args.wrapper.now.chains.items c.in_ok-layout.layout c.in_ok-layout.ensures.lengths c.in_ok-layout.ensures.chains made) c.paths_of.ensures
