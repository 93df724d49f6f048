use Rattle.std.proofs.Common.{List, map, subst}
use Rattle.plan_model.specs.declared.Bus.{Bus}
use Rattle.plan_model.specs.Views.{bus_value}
use Rattle.live_tests.specs.Index.{AreBusPlaces}
use Rattle.live_tests.proofs.index.PlanIndex.new.Goals as goal

pub with_wrappers-requires-clause-buses : goal.with_wrappers-requires-clause-buses
with_wrappers-requires-clause-buses c = subst (λ (bs : List Bus). AreBusPlaces c.in_ok-buses.buses.entries (map bus_value bs)) c.deref-2.ensures.value c.in_ok-buses.ensures
