use Rattle.std.proofs.Common.{refl}
use Rattle.arch_search.proofs.Changed.{state_on, search_fit}
use Rattle.arch_search.proofs.search.Search.change_current_buses.Goals as goal

pub invariant_of-self-2 : goal.invariant_of-self-2
invariant_of-self-2 c = search_fit c.self-2.inside.setting c.self-2.inside.table c.self-2.inside.room c.self-2.inside.taken.items c.self-2.inside.less.items c.fits.new.less.items c.self-2.inside.best c.self-2.inside.current c.self-2.inside.next _ c.self-2.invariant c.fits.ensures.less
    (state_on c.self-2.inside.setting.problem.now c.self-2.inside.next _ c.self-2.invariant.next_is c.fits.ensures.buses c.fits.ensures.alike refl)
