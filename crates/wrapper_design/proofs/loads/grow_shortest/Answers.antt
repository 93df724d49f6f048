use Rattle.std.proofs.Common.{◌+◌, refl}
use Rattle.std.specs.BinaryHeap.{heap_items}
use Rattle.wrapper_design.proofs.Shortest.{grows}
use Rattle.wrapper_design.proofs.loads.grow_shortest.Goals as goal

pub returns-clause-grows : goal.returns-clause-grows
returns-clause-grows c = λ loads has.
    grows (heap_items c.args.heap.now) (heap_items c.pop.new.self) (heap_items c.push.new.self) c.in-Some.field-0.0.0 c.in-Some.field-0.0.1 c.args.length (c.in-Some.field-0.0.0 + c.args.length) loads has
    (c.in-Some.ensures.heap_order c.requires.heap).1 c.in-Some.ensures.permutation c.in_ok-push-in-Some.ensures.permutation refl
