use Rattle.std.proofs.Common.{◌∙◌, ap}
use Rattle.vector_lines.specs.Wires.{wires_of}
use Rattle.live_tests.specs.PlacedPlans.{PlacedPlanValue}
use Rattle.tester_commands.proofs.Stepping.{first_after}
use Rattle.tester_commands.proofs.running.run_plan.Goals as goal

pub loop-cycle-init : goal.loop-cycle-init
loop-cycle-init c =
    let wires = c.all_wires-wires.ensures ∙ ap (λ (p : PlacedPlanValue). wires_of p.plan) c.placed.view_is in
    record {
      after = first_after c.args.placed.now.soc c.args.placed.now.plan c.args.seed c.in_ok-chip.chip c.in_ok-chip.ensures;
      drive = c.in_ok-drive.ensures ∙ wires;
      read = c.in_ok-read.ensures ∙ wires;
    }
