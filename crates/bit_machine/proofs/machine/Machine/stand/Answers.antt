use Rattle.std.proofs.Common.{◌∙◌, ap, sym, subst, length, List, ℕ, Option, arith}
use Rattle.std.specs.Vec.{with_items}
use Rattle.std.proofs.lemmas.List.{with_items_is}
use Rattle.bit_machine.specs.Machines.{FitLanes, AreStepped, AreNow, lanes_state}
use Rattle.vector_lines.specs.Wires.{AreOnWires}
use Rattle.bit_machine.specs.declared.stepped.SteppedLane.{SteppedLane}
use Rattle.bit_machine.proofs.Assigning.{lanes_fit, users_stand, stood}
use Rattle.bit_machine.proofs.machine.Machine.stand.Goals as goal

pub assign_wires-requires : goal.assign_wires-requires
assign_wires-requires c =
    subst (λ (ls : List SteppedLane). FitLanes ls (length c.deref_mut.result.now)) (sym c.deref-2.ensures.value)
    (subst (λ (us : List (Option ℕ)). FitLanes c.args.self.now.lanes.items (length us)) (sym c.deref_mut.ensures.value) (lanes_fit c.requires.are c.requires.on))

pub stand_all-requires : goal.stand_all-requires
stand_all-requires c =
    users_stand c.args.self.now.users c.assign_wires.new.users c.args.cycle c.requires c.deref-2.ensures.value c.deref_mut.ensures.value c.assign_wires.ensures.long c.assign_wires.ensures.users c.deref_mut-2.ensures.value c.deref-3.ensures.value

pub returns-clause-machine : goal.returns-clause-machine
returns-clause-machine c = λ content tests are on.
    let items = with_items_is c.args.self.now.lanes c.stand_all.new.lanes (omega (arith, c.stand_all.ensures.long, ap length c.deref_mut-2.ensures.value, c.args.self.now.lanes.ok.0)) in
    stood c.args.self.now.users c.assign_wires.new.users c.args.cycle c.args.self.now.lanes (with_items c.args.self.now.lanes c.stand_all.new.lanes) c.next_change-self.result c.deref.ensures.value (c.assign_wires.ensures.long
    ∙ ap length c.deref_mut.ensures.value) c.next_change-self.ensures (c.assign_wires.ensures.users content tests (subst (AreStepped content tests) (sym c.deref-2.ensures.value) are)
    (subst (λ (us : List (Option ℕ)). AreOnWires tests (length us)) (sym c.deref_mut.ensures.value) on)) are
    (subst (AreStepped content tests) (sym items) (c.stand_all.ensures.lanes content tests (subst (AreStepped content tests) (sym c.deref_mut-2.ensures.value) are)))
    (subst (λ (ls : List SteppedLane). AreNow ls c.args.cycle) (sym items) c.stand_all.ensures.now) on

pub returns-clause-state : goal.returns-clause-state
returns-clause-state c =
    let items = with_items_is c.args.self.now.lanes c.stand_all.new.lanes (omega (arith, c.stand_all.ensures.long, ap length c.deref_mut-2.ensures.value, c.args.self.now.lanes.ok.0)) in
    ap lanes_state items ∙ c.stand_all.ensures.state ∙ ap lanes_state c.deref_mut-2.ensures.value
