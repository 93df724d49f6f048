use Rattle.std.proofs.Common.{ℕ, ◌<◌, List, length, sym, subst, All}
use Rattle.arch_search.proofs.Changed.{order_before, order_within}
use Rattle.arch_search.proofs.weighing.place_earlier.Goals as goal

pub advance_drawn-requires : goal.advance_drawn-requires
advance_drawn-requires g c = record { order = order_before _ c.args.problem.now c.loop-time.state c.deref.result.now c.deref.ensures.value c.loop-time.invariant.problem c.loop-time.invariant.state }

pub place_order-requires-clause-order : goal.place_order-requires-clause-order
place_order-requires-clause-order g c = subst (λ (l : List ℕ). All (λ test. test < length c.args.problem.now.tests.items) l) (sym c.deref-in-loop-time.ensures.value)
    (order_within _ c.args.problem.now c.deref.result.now c.advance_drawn.new.order.items c.deref.ensures.value c.loop-time.invariant.problem c.advance_drawn.ensures.order)
