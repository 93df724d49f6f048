use Rattle.std.proofs.Common.{refl}
use Rattle.arch_search.proofs.Changed.{order_before, state_ordered, search_next}
use Rattle.arch_search.proofs.search.Search.take_current_order.Goals as goal

pub change_order-changed-requires : goal.change_order-changed-requires
change_order-changed-requires c = record { order = order_before c.self.inside.table.job c.self.inside.setting.problem.now c.take_order.new.self c.deref.result.now c.deref.ensures.value c.self.invariant.is_problem c.take_order.ensures.state }

pub invariant_of-self : goal.invariant_of-self
invariant_of-self c = search_next c.self.inside.setting c.self.inside.table c.self.inside.room c.self.inside.taken.items c.self.inside.taken.items c.self.inside.less.items c.self.inside.best c.self.inside.current c.self.inside.next _ c.self.invariant c.self.invariant.are_taken
    (state_ordered c.self.inside.table.job c.self.inside.setting.problem.now c.take_order.new.self _ c.deref.result.now c.deref.ensures.value c.self.invariant.is_problem c.take_order.ensures.state refl c.change_order-changed.ensures.long c.change_order-changed.ensures.order)
