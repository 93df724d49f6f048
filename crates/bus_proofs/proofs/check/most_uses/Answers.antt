use Rattle.std.proofs.Common.{map, arith}
use Rattle.std.proofs.lemmas.List.{length-map}
use Rattle.std.proofs.lemmas.Option.{slice_get_within}
use Rattle.plan_model.specs.Proofs.{OfLeaf, node_value}
use Rattle.bus_proofs.proofs.ProofChecks.{uses_more}
use Rattle.bus_proofs.proofs.check.most_uses.Goals as goal

pub loop-place-preserved : goal.loop-place-preserved
loop-place-preserved c =
    uses_more c.args.nodes.now c.loop-place.place c.loop-place.most c.max-most.result c.loop-place.invariant c.loop-place-test.true c.index-nodes-place.is
    (λ w e. omega (arith, c.uses_of.ensures w e, c.max-most.ensures)) (omega (arith, c.max-most.ensures))

pub returns : goal.returns
returns c = λ q w at.
    c.loop-place.invariant q w
    (omega (arith, slice_get_within (map node_value c.args.nodes.now) q (OfLeaf w) at, length-map c.args.nodes.now node_value, c.loop-place-test.false)) at
