use Rattle.std.proofs.Common.{refl}
use Rattle.arch_search.proofs.Changed.{state_on, search_next, taken_for}
use Rattle.arch_search.proofs.search.Search.change_next_buses.Goals as goal

pub invariant_of-self : goal.invariant_of-self
invariant_of-self c = search_next c.self.inside.setting c.self.inside.table c.self.inside.room c.self.inside.taken.items c.change_buses.new.taken.items c.self.inside.less.items c.self.inside.best c.self.inside.current c.self.inside.next _ c.self.invariant
    (taken_for c.self.inside.setting.problem.now c.self.inside.next c.change_buses.new.taken.items c.self.invariant.next_is c.change_buses.ensures.taken)
    (state_on c.self.inside.setting.problem.now c.self.inside.next _ c.self.invariant.next_is c.change_buses.ensures.buses c.change_buses.ensures.alike refl)
