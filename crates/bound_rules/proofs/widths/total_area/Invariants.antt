use Rattle.std.proofs.Common.{◌≡◌, ℕ, ◌≤◌}
use Rattle.soc_model.specs.Chips.{soc_value}
use Rattle.plan_model.specs.Bounds.{sum_below, module_area}
use Rattle.bound_rules.proofs.widths.total_area.Given as goal

abbrev pub invariant-loop-place : goal.invariant-loop-place
invariant-loop-place l = (wires : ℕ) → 1 ≤ wires → l.sum ≡ sum_below (module_area (soc_value l.soc) wires) l.place
