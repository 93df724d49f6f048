use Rattle.std.proofs.Common.{◌∙◌, ap, refl, subst, arith}
use Rattle.plan_model.specs.Rules.{IsGoodAlone}
use Rattle.plan_model.specs.Views.{plan_value}
use Rattle.live_tests.specs.PlacedPlans.{PlacedPlanValue}
use Rattle.vector_lines.specs.Wires.{wires_of}
use Rattle.vector_lines.proofs.NewVectors.{new_vectors, wires_are}
use Rattle.vector_lines.proofs.vectors.Vectors.new.Goals as goal

pub returns : goal.returns
returns g c =
    let plan = c.placed.inside.plan.now in
    let good : IsGoodAlone c.args.placed.now.soc c.args.placed.now.plan = subst (λ (v : PlacedPlanValue). IsGoodAlone v.soc v.plan) c.placed.view_is c.placed.invariant.good in
    new_vectors _ good (wires_are plan.buses.items (plan_value plan) c.len.result refl c.in_ok-firsts.ensures (omega (arith, c.len.ensures, plan.buses.ok.0)) c.index.ensures ∙ ap (λ (v : PlacedPlanValue). wires_of v.plan) c.placed.view_is) c.in_ok-lanes.ensures
