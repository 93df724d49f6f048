use Rattle.std.proofs.Common.{◌≡◌}
use Rattle.plan_model.specs.Views.{plan_value}
use Rattle.vector_lines.specs.Wires.{wires_of}
use Rattle.row_runner.specs.Widths.{IsWide}
use Rattle.row_runner.proofs.chips.run_of_chip.Given as goal

abbrev pub invariant-loop-cycle : goal.invariant-loop-cycle
invariant-loop-cycle l = record {
  plan : l.chip.plan ≡ plan_value l.initial.plan;
  cycle : l.chip.cycle ≡ l._cycle;
  wide : IsWide (wires_of (plan_value l.initial.plan)) l.wires;
}
