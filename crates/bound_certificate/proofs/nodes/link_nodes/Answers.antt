use Rattle.std.proofs.Common.{refl, rules}
use Rattle.bound_certificate.proofs.Links.{link_next}
use Rattle.bound_certificate.proofs.nodes.link_nodes.Goals as goal

pub loop-place-preserved : goal.loop-place-preserved
loop-place-preserved c =
    link_next c.args.nodes.now.items c.loop-place.nodes.items c.args.lists.now.items c.loop-place.lists.items c.loop-place.place c.index_mut.result.now (record { id = c.index_mut.result.now.id; time = c.index_mut.result.now.time; before = c.swap.new.x }) c.index_mut-in-loop-place.result.now (record { tests = c.swap.new.y }) c.loop-place.invariant
    (search rules) c.index_mut.ensures.value c.index_mut-in-loop-place.ensures.value refl refl (search rules)
