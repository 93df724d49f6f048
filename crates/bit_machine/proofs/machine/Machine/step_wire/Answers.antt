use Rattle.std.proofs.Common.{◌∙◌, ap, Some, arith}
use Rattle.bit_machine.specs.Machines.{HasWire}
use Rattle.bit_machine.proofs.WireUsers.{user_place, user_lane, has_wire, no_user}
use Rattle.bit_machine.proofs.WireSteps.{user_step, unused_step, with_lane}
use Rattle.bit_machine.proofs.machine.Machine.step_wire.Goals as goal
use Rattle.common_lemmas.proofs.Lists.{slice_at}

pub index_mut-stepped-requires : goal.index_mut-stepped-requires
index_mut-stepped-requires c =
    let there = slice_at c.args.self.now.users.items c.args.wire c.index.result.now c.requires.wire c.index.ensures ∙ ap Some c.in-Some.is in
    let place = user_place c.requires.machine.is c.args.wire there in
    omega (arith, place, c.args.self.now.lanes.ok.0)

pub overflow_sub-chain : goal.overflow_sub-chain
overflow_sub-chain c =
    let there = slice_at c.args.self.now.users.items c.args.wire c.index.result.now c.requires.wire c.index.ensures ∙ ap Some c.in-Some.is in
    let place = user_place c.requires.machine.is c.args.wire there in
    let at = slice_at c.args.self.now.lanes.items c.in-Some.place c.index_mut-stepped.result.now place c.index_mut-stepped.ensures.value in
    let wire : HasWire c.args.self.now c.args.wire c.index_mut-stepped.result.now = has_wire c.args.wire there at c.requires.machine in
    wire.low

pub step-requires : goal.step-requires
step-requires c =
    let there = slice_at c.args.self.now.users.items c.args.wire c.index.result.now c.requires.wire c.index.ensures ∙ ap Some c.in-Some.is in
    let place = user_place c.requires.machine.is c.args.wire there in
    let at = slice_at c.args.self.now.lanes.items c.in-Some.place c.index_mut-stepped.result.now place c.index_mut-stepped.ensures.value in
    let wire : HasWire c.args.self.now c.args.wire c.index_mut-stepped.result.now = has_wire c.args.wire there at c.requires.machine in
    wire.steppable

pub returns-in-Some-clause-machine : goal.returns-in-Some-clause-machine
returns-in-Some-clause-machine c = λ content tests is.
    let there = slice_at c.args.self.now.users.items c.args.wire c.index.result.now c.requires.wire c.index.ensures ∙ ap Some c.in-Some.is in
    let place = user_place c.requires.machine.is c.args.wire there in
    let at = slice_at c.args.self.now.lanes.items c.in-Some.place c.index_mut-stepped.result.now place c.index_mut-stepped.ensures.value in
    let u = user_lane c.args.wire there at is in
    with_lane is c.args.wire u c.step.ensures.lane c.step.ensures.ready (c.step.ensures.now c.args.self.now.cycle u.now)

pub returns-in-Some-clause-bits : goal.returns-in-Some-clause-bits
returns-in-Some-clause-bits c = λ content tests is.
    let there = slice_at c.args.self.now.users.items c.args.wire c.index.result.now c.requires.wire c.index.ensures ∙ ap Some c.in-Some.is in
    let place = user_place c.requires.machine.is c.args.wire there in
    let at = slice_at c.args.self.now.lanes.items c.in-Some.place c.index_mut-stepped.result.now place c.index_mut-stepped.ensures.value in
    let wire : HasWire c.args.self.now c.args.wire c.index_mut-stepped.result.now = has_wire c.args.wire there at c.requires.machine in
    let u = user_lane c.args.wire there at is in
    user_step is c.step.new.self c.args.drive u wire.low (c.step.ensures.bits content u.t c.args.self.now.cycle u.tam u.lane u.now)

pub returns-in-None-clause-bits : goal.returns-in-None-clause-bits
returns-in-None-clause-bits c = λ content tests is.
    unused_step is c.args.wire c.args.drive (no_user is c.args.wire c.requires.wire (slice_at c.args.self.now.users.items c.args.wire c.index.result.now c.requires.wire c.index.ensures ∙ ap Some c.in-None.is))
