use Rattle.std.proofs.Common.{refl}
use Rattle.arch_search.proofs.Changed.{order_before, state_ordered, search_next}
use Rattle.arch_search.proofs.search.Search.reorder_current.Goals as goal

pub reorder_tests-requires : goal.reorder_tests-requires
reorder_tests-requires c = record { order = order_before c.self.inside.table.job c.self.inside.setting.problem.now c.become_as.new.self c.deref.result.now c.deref.ensures.value c.self.invariant.is_problem c.become_as.ensures.state }

pub invariant_of-self : goal.invariant_of-self
invariant_of-self c = search_next c.self.inside.setting c.self.inside.table c.self.inside.room c.self.inside.taken.items c.self.inside.taken.items c.self.inside.less.items c.self.inside.best c.self.inside.current c.self.inside.next _ c.self.invariant c.self.invariant.are_taken
    (state_ordered c.self.inside.table.job c.self.inside.setting.problem.now c.become_as.new.self _ c.deref.result.now c.deref.ensures.value c.self.invariant.is_problem c.become_as.ensures.state refl c.reorder_tests.ensures.long c.reorder_tests.ensures.order)
