use Rattle.std.proofs.Common.{◌≡◌, ◌+◌, take, sum, sum_by}
use Rattle.plan_model.specs.declared.ChainPlan.{ChainPlan}
use Rattle.vector_lines.specs.Layouts.{layout_cells}
use Rattle.vector_lines.specs.Building.{ArePaths}
use Rattle.vector_lines.proofs.building.paths_of.Given as goal

abbrev pub invariant-loop-chain : goal.invariant-loop-chain
invariant-loop-chain l = record {
  ins : l.ins_from ≡ sum_by (λ (c : ChainPlan). c.ins) (take l.chain-index l.layout.chains.items);
  outs : l.outs_from ≡ sum l.layout.lengths.items + sum_by (λ (c : ChainPlan). c.outs) (take l.chain-index l.layout.chains.items);
  paths : ArePaths l.inputs l.layout.lengths.items (layout_cells l.layout) l.chain-index l.paths.items;
}
