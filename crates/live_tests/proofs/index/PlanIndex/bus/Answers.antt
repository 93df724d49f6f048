use Rattle.std.proofs.Common.{List, map, ap, sym, subst, ◌∙◌}
use Rattle.plan_model.specs.declared.Bus.{Bus}
use Rattle.plan_model.specs.Plans.{PlanValue, bus_place}
use Rattle.plan_model.specs.Views.{bus_value}
use Rattle.live_tests.specs.Index.{AreBusPlaces}
use Rattle.live_tests.proofs.index.PlanIndex.bus.Goals as goal

pub bus_place-requires : goal.bus_place-requires
bus_place-requires c = subst (λ (bs : List Bus). AreBusPlaces c.self.inside.buses.entries (map bus_value bs)) (sym c.deref.ensures.value) c.self.invariant.bus

pub returns : goal.returns
returns c =
    c.bus_place.ensures ∙ ap (λ (bs : List Bus). bus_place c.args.«module» 0 (map bus_value bs)) c.deref.ensures.value ∙ ap (λ (plan : PlanValue). bus_place c.args.«module» 0 plan.buses) c.self.view_is
