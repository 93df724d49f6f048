use Rattle.std.proofs.Common.{◌≡◌, length}
use Rattle.vector_lines.specs.Wires.{wires_of}
use Rattle.tester_commands.specs.SteppedChips.{IsAfter}
use Rattle.tester_commands.proofs.running.run_plan.Given as goal

abbrev pub invariant-loop-cycle : goal.invariant-loop-cycle
invariant-loop-cycle l = record {
  after : IsAfter l.initial.placed.soc l.initial.placed.plan l.initial.seed l._cycle l.chip;
  drive : length l.drive.items ≡ wires_of l.initial.placed.plan;
  read : length l.read.items ≡ wires_of l.initial.placed.plan;
}
