use Rattle.std.proofs.Common.{ℕ, List, [], ◌∷◌, ◌++◌, ◌∙◌, get_or, map, ap}
use Rattle.std.proofs.lemmas.List.{take_all}
use Rattle.bus_model.specs.Buses.{BusValue}
use Rattle.bus_model.specs.Start.{one_wire}
use Rattle.bus_model.proofs.Views.{value_push}
use Rattle.bus_model.proofs.start.one_wire_buses.Goals as goal

abbrev narrow : List ℕ → BusValue
narrow places = record { width = 1; places = places }

pub loop-place-preserved : goal.loop-place-preserved
loop-place-preserved c =
    let place : ℕ = get_or c.args.places.now c.loop-place.place-index 0 in
    let listed = c.in_ok-push.ensures.ok ∙ ap (λ (l : List ℕ). l ++ place ∷ []) c.new-listed.ensures.items in
    value_push c.args.places.now c.loop-place.place-index c.push-in-loop-place.new.to.items c.loop-place.buses.items _ c.in_ok-push-2.ensures.ok c.loop-place.invariant c.loop-place-test.true (ap narrow listed)

pub returns : goal.returns
returns c = c.loop-place.invariant ∙ ap (map one_wire) (take_all c.loop-place.place-index c.args.places.now c.loop-place-test.false)
