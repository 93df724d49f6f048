use Rattle.std.proofs.Common.{◌∙◌, ap, subst, arith}
use Rattle.plan_model.specs.Rules.{IsGoodAlone}
use Rattle.live_tests.specs.PlacedPlans.{PlacedPlanValue}
use Rattle.vector_lines.specs.Wires.{wires_of}
use Rattle.cycle_texts.proofs.sources.RowSource.new.Goals as goal

pub all_wires-wires-requires : goal.all_wires-wires-requires
all_wires-wires-requires g c = omega (arith, c.requires, ap (λ (p : PlacedPlanValue). wires_of p.plan) c.placed.view_is)

pub returns-clause-source : goal.returns-clause-source
returns-clause-source g c = record {
  good = subst (λ (p : PlacedPlanValue). IsGoodAlone p.soc p.plan) c.placed.view_is c.placed.invariant.good;
  vectors = c.in_ok-vectors.ensures;
  rows = c.in_ok-controls.ensures;
  wires = c.all_wires-wires.ensures ∙ ap (λ (p : PlacedPlanValue). wires_of p.plan) c.placed.view_is;
  narrow = c.requires;
  width = c.count-width.ensures c.args.placed.now.soc c.args.placed.now.plan c.in_ok-controls.ensures;
  cycles = ap (λ (p : PlacedPlanValue). p.plan.cycles) c.placed.view_is;
  some = c.cycles_in_block.ensures.some;
  few = omega (arith, c.cycles_in_block.ensures.few, ap (λ (p : PlacedPlanValue). p.plan.cycles) c.placed.view_is);
}
