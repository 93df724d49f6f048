use Rattle.std.proofs.Common.{◌∙◌, None, Some, ap}
use Rattle.std.proofs.lemmas.Option.{slice_get-get_or}
use Rattle.bit_machine.proofs.Standing.{user_ready, now_unused, stood_lanes, stood_state, stood_some, now_more}
use Rattle.bit_machine.proofs.machine.stand_wire.Goals as goal

pub stand_at-requires-clause-ready : goal.stand_at-requires-clause-ready
stand_at-requires-clause-ready c =
    let there = slice_get-get_or c.args.users.now c.args.wire None c.requires.wire ∙ ap Some c.in-Some.is in
    user_ready c.requires.some c.args.wire there

pub returns-in-Some-clause-some : goal.returns-in-Some-clause-some
returns-in-Some-clause-some c =
    stood_some c.args.lanes.now c.stand_at.new.lanes c.in-Some.place c.args.wire c.args.cycle (record { long = c.stand_at.ensures.long; others = c.stand_at.ensures.others; own = c.stand_at.ensures.own }) c.requires.some

pub returns-in-Some-clause-state : goal.returns-in-Some-clause-state
returns-in-Some-clause-state c =
    stood_state c.args.lanes.now c.stand_at.new.lanes c.in-Some.place c.args.wire c.args.cycle (record { long = c.stand_at.ensures.long; others = c.stand_at.ensures.others; own = c.stand_at.ensures.own })

pub returns-in-Some-clause-lanes : goal.returns-in-Some-clause-lanes
returns-in-Some-clause-lanes c = λ content tests are.
    stood_lanes c.stand_at.new.lanes c.in-Some.place c.args.wire c.args.cycle (record { long = c.stand_at.ensures.long; others = c.stand_at.ensures.others; own = c.stand_at.ensures.own }) are

pub returns-in-Some-clause-now : goal.returns-in-Some-clause-now
returns-in-Some-clause-now c = λ below.
    let there = slice_get-get_or c.args.users.now c.args.wire None c.requires.wire ∙ ap Some c.in-Some.is in
    now_more c.args.lanes.now c.stand_at.new.lanes c.in-Some.place c.args.wire c.args.cycle (record { long = c.stand_at.ensures.long; others = c.stand_at.ensures.others; own = c.stand_at.ensures.own }) c.requires.some there below

pub returns-in-None-clause-now : goal.returns-in-None-clause-now
returns-in-None-clause-now c = λ below.
    let there = slice_get-get_or c.args.users.now c.args.wire None c.requires.wire ∙ ap Some c.in-None.is in
    now_unused c.requires.some c.args.wire there below
