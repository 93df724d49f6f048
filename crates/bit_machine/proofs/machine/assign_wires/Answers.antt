use Rattle.std.proofs.Common.{◌∙◌, length, arith}
use Rattle.std.proofs.lemmas.Option.{slice_get-get_or}
use Rattle.bit_machine.proofs.Assigning.{nobody_below, assign_more, all_users}
use Rattle.bit_machine.proofs.machine.assign_wires.Goals as goal

pub loop-place-init : goal.loop-place-init
loop-place-init c = record {
  long = c.clear_users.ensures.long;
  users = λ content tests are on. nobody_below tests c.args.cycle c.clear_users.new.users c.clear_users.ensures.none;
}

pub give_active-requires : goal.give_active-requires
give_active-requires c = λ tam.
    let fits = c.requires c.loop-place.place _ (slice_get-get_or c.args.lanes.now c.loop-place.place c.index-lanes-place.result (omega (arith, c.loop-place-test.true))) tam in
    omega (arith, fits, c.loop-place.invariant.long)

pub loop-place-preserved : goal.loop-place-preserved
loop-place-preserved c = record {
  long = c.give_active.ensures.long ∙ c.loop-place.invariant.long;
  users = λ content tests are on.
      assign_more c.args.lanes.now c.args.cycle (length c.args.users.now) are on c.give_active.new.users
      (slice_get-get_or c.args.lanes.now c.loop-place.place c.index-lanes-place.result (omega (arith, c.loop-place-test.true))) c.give_active.ensures.long
      (record { given = c.give_active.ensures.given; others = c.give_active.ensures.others; off = c.give_active.ensures.off }) (c.loop-place.invariant.users content tests are on);
}

pub returns-clause-users : goal.returns-clause-users
returns-clause-users c = λ content tests are on.
    all_users (omega (arith, c.loop-place-test.false, are.long)) (c.loop-place.invariant.users content tests are on)
