use Rattle.std.proofs.Common.{◌∙◌, ap, Some, arith}
use Rattle.bit_machine.proofs.WireUsers.{user_place, has_wire, no_user}
use Rattle.bit_machine.proofs.machine.Machine.user.Goals as goal
use Rattle.common_lemmas.proofs.Lists.{slice_at}

pub returns-in-None-clause-none : goal.returns-in-None-clause-none
returns-in-None-clause-none c = λ content tests is.
    no_user is c.args.wire c.requires.wire (slice_at c.args.self.now.users.items c.args.wire c.index.result.now c.requires.wire c.index.ensures ∙ ap Some c.in-None.is)

pub index-requires-in-Some : goal.index-requires-in-Some
index-requires-in-Some c =
    let there = slice_at c.args.self.now.users.items c.args.wire c.index.result.now c.requires.wire c.index.ensures ∙ ap Some c.in-Some.is in
    let place = user_place c.requires.machine.is c.args.wire there in
    omega (arith, place, c.args.self.now.lanes.ok.0)

pub returns-in-Some-clause-some : goal.returns-in-Some-clause-some
returns-in-Some-clause-some c =
    let there = slice_at c.args.self.now.users.items c.args.wire c.index.result.now c.requires.wire c.index.ensures ∙ ap Some c.in-Some.is in
    let place = user_place c.requires.machine.is c.args.wire there in
    has_wire c.args.wire there (slice_at c.args.self.now.lanes.items c.in-Some.place c.index-in-Some.result.now place c.index-in-Some.ensures) c.requires.machine
