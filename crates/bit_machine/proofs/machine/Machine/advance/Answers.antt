use Rattle.std.proofs.Common.{◌+◌, ap, sym, subst, length, List, refl, arith, ◌∙◌}
use Rattle.std.specs.Vec.{with_items}
use Rattle.std.proofs.lemmas.List.{with_items_is}
use Rattle.bit_machine.specs.Machines.{AreStepped, AreNow, lanes_state}
use Rattle.bit_machine.specs.declared.stepped.SteppedLane.{SteppedLane}
use Rattle.bit_machine.proofs.Assigning.{next_some, next_machine}
use Rattle.bit_machine.proofs.machine.Machine.advance.Goals as goal

pub stand_all-requires : goal.stand_all-requires
stand_all-requires c = next_some (c.args.self.now.cycle + 1) refl c.if-next-self.true c.requires.machine c.deref_mut.ensures.value c.deref.ensures.value

pub returns-then-next-self-clause-machine : goal.returns-then-next-self-clause-machine
returns-then-next-self-clause-machine c = λ content tests is.
    let items = with_items_is c.args.self.now.lanes c.stand_all.new.lanes (omega (arith, c.stand_all.ensures.long, ap length c.deref_mut.ensures.value, c.args.self.now.lanes.ok.0)) in
    next_machine (c.args.self.now.cycle + 1) refl c.if-next-self.true (with_items c.args.self.now.lanes c.stand_all.new.lanes)
    (subst (AreStepped content tests) (sym items) (c.stand_all.ensures.lanes content tests (subst (AreStepped content tests) (sym c.deref_mut.ensures.value) is.lanes)))
    (subst (λ (ls : List SteppedLane). AreNow ls (c.args.self.now.cycle + 1)) (sym items) c.stand_all.ensures.now) is

pub returns-else-next-self-clause-machine : goal.returns-else-next-self-clause-machine
returns-else-next-self-clause-machine c = λ content tests is. c.stand.ensures.machine content tests is.lanes is.wires

pub returns-then-next-self-clause-state : goal.returns-then-next-self-clause-state
returns-then-next-self-clause-state c =
    let items = with_items_is c.args.self.now.lanes c.stand_all.new.lanes (omega (arith, c.stand_all.ensures.long, ap length c.deref_mut.ensures.value, c.args.self.now.lanes.ok.0)) in
    ap lanes_state items ∙ c.stand_all.ensures.state ∙ ap lanes_state c.deref_mut.ensures.value
