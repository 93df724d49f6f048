use Rattle.std.proofs.Common.{◌∙◌, refl, arith}
use Rattle.soc_model.specs.Chips.{soc_value}
use Rattle.plan_model.specs.Views.{plan_value}
use Rattle.bit_machine.proofs.MadeLanes.{made_lanes}
use Rattle.bit_machine.proofs.NewChips.{new_chip, new_some, new_state, first_value}
use Rattle.vector_lines.proofs.NewVectors.{wires_are}
use Rattle.bit_machine.proofs.chip.Chip.with_lanes.Goals as goal

pub new-machine-requires : goal.new-machine-requires
new-machine-requires c = new_some (soc_value c.args.soc.now) (plan_value c.args.plan.now) c.args.seed c.requires.good (c.in_ok-users.ensures
    ∙ wires_are c.args.plan.now.buses.items (plan_value c.args.plan.now) c.len.result refl c.in_ok-firsts.ensures (omega (arith, c.len.ensures, c.args.plan.now.buses.ok.0)) c.index.ensures)
    (made_lanes c.requires.sound c.args.seed c.requires.lanes) c.in_ok-stepped.ensures

pub invariant_of-result : goal.invariant_of-result
invariant_of-result c =
    new_chip (soc_value c.args.soc.now) (plan_value c.args.plan.now) c.args.seed c.requires.good (c.in_ok-users.ensures
    ∙ wires_are c.args.plan.now.buses.items (plan_value c.args.plan.now) c.len.result refl c.in_ok-firsts.ensures (omega (arith, c.len.ensures, c.args.plan.now.buses.ok.0)) c.index.ensures)
    (made_lanes c.requires.sound c.args.seed c.requires.lanes) c.in_ok-stepped.ensures c.new-machine.result c.requires.sound c.new-machine.ensures.cycle c.new-machine.ensures.long c.new-machine.ensures.machine

pub returns : goal.returns
returns c =
    let chip = new_chip (soc_value c.args.soc.now) (plan_value c.args.plan.now) c.args.seed c.requires.good (c.in_ok-users.ensures
    ∙ wires_are c.args.plan.now.buses.items (plan_value c.args.plan.now) c.len.result refl c.in_ok-firsts.ensures (omega (arith, c.len.ensures, c.args.plan.now.buses.ok.0)) c.index.ensures)
    (made_lanes c.requires.sound c.args.seed c.requires.lanes) c.in_ok-stepped.ensures c.new-machine.result c.requires.sound c.new-machine.ensures.cycle c.new-machine.ensures.long c.new-machine.ensures.machine in
    first_value (soc_value c.args.soc.now) (plan_value c.args.plan.now) c.args.seed c.new-machine.result c.new-machine.ensures.cycle
    (new_state (soc_value c.args.soc.now) c.args.seed chip.machine c.new-machine.ensures.state (made_lanes c.requires.sound c.args.seed c.requires.lanes) c.in_ok-stepped.ensures)
