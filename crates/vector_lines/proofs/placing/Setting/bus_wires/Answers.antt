use Rattle.std.proofs.Common.{◌∙◌, ap, length, arith, slice_index}
use Rattle.std.proofs.lemmas.List.{length-map}
use Rattle.plan_model.specs.Plans.{BusValue, widths}
use Rattle.plan_model.specs.Views.{bus_value}
use Rattle.live_tests.specs.PlacedPlans.{PlacedPlanValue}
use Rattle.vector_lines.proofs.PlacedLanes.{width_is}
use Rattle.vector_lines.proofs.placing.Setting.bus_wires.Goals as goal

pub bounds-self-bus : goal.bounds-self-bus
bounds-self-bus c = omega (arith, c.requires.firsts.long, c.requires.bus, length-map c.args.self.now.placed.now.plan.buses (λ (b : BusValue). b.width))

pub index-requires : goal.index-requires
index-requires c =
    omega (arith, c.requires.bus, ap (λ (v : PlacedPlanValue). length v.plan.buses) c.placed.view_is, length-map c.placed.inside.plan.now.buses.items bus_value, c.placed.inside.plan.now.buses.ok.0)

pub returns-clause-first : goal.returns-clause-first
returns-clause-first c = c.requires.firsts.first c.args.bus (omega (arith, c.requires.bus, length-map c.args.self.now.placed.now.plan.buses (λ (b : BusValue). b.width)))

pub returns-clause-width : goal.returns-clause-width
returns-clause-width c =
    width_is c.placed.inside.plan.now.buses.items c.args.bus c.index.ensures (omega (arith, c.requires.bus, ap (λ (v : PlacedPlanValue). length v.plan.buses) c.placed.view_is, length-map c.placed.inside.plan.now.buses.items bus_value))
    ∙ ap (λ (v : PlacedPlanValue). slice_index (widths v.plan) c.args.bus) c.placed.view_is
