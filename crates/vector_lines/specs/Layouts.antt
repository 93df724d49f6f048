-- How the cells of a module stand in the chains of a wrapper.
use Rattle.std.specs.Prelude.{◌≡◌, ℕ, ◌+◌, ◌^◌, ◌<◌, ◌≤◌, List, ◌++◌, map, length, take, slice_index}
use Rattle.std.specs.List.{All, sum, sum_by, flat_map}
use Rattle.plan_model.specs.declared.ChainPlan.{ChainPlan}
use Rattle.plan_model.specs.Cells.{Cell, ChainValue, in_cells, out_cells, flops, dealt, out_length}
use Rattle.plan_model.specs.Views.{chain_value}
use Rattle.vector_lines.specs.declared.layout.Layout.{Layout}

-- the cells of a chain, its input cells from `i` on and its output cells from `o` on
abbrev pub chain_of : (lengths : List ℕ) (i o : ℕ) → ChainValue → List Cell
chain_of lengths i o c = in_cells i c.ins ++ flat_map (flops lengths) c.scans ++ out_cells o c.outs

-- how many cells a chain has
abbrev pub chain_length : (lengths : List ℕ) → ChainPlan → ℕ
chain_length lengths c = c.ins + sum_by (slice_index lengths) c.scans.items + c.outs

-- the cells of all chains
abbrev pub layout_cells : Layout → List (List Cell)
layout_cells l = dealt l.lengths.items 0 0 (map chain_value l.chains.items)

-- for each scan chain the lengths before it together
pub record IsStarts (lengths starts : List ℕ) : Type 0 where
  pub long : length starts ≡ length lengths
  pub start : (c : ℕ) → c < length lengths → slice_index starts c ≡ sum (take c lengths)

-- what a chain keeps: it lists scan chains that are there, and its cells fit in a machine's number
pub record IsListed (lengths : List ℕ) (c : ChainPlan) : Type 0 where
  pub listed : All (λ x. x < length lengths) c.scans.items
  pub fits : chain_length lengths c ≤ 10 ^ 18

-- what every layout keeps
pub record IsLayout (l : Layout) : Type 0 where
  pub starts : IsStarts l.lengths.items l.starts.items
  pub flops : l.flops ≡ sum l.lengths.items
  pub chains : All (IsListed l.lengths.items) l.chains.items
  -- the cells that are read are the flops and the output cells
  pub read : sum_by out_length (layout_cells l) ≡ sum l.lengths.items + sum_by (λ (c : ChainPlan). c.outs) l.chains.items
