use Rattle.std.proofs.Common.{length, sym, subst}
use Rattle.soc_model.specs.Chips.{live_tests, soc_value}
use Rattle.plan_model.specs.Faults.{IsFaultless}
use Rattle.plan_model.specs.Right.{IsRight}
use Rattle.plan_model.specs.Rules.{used_pairs}
use Rattle.plan_model.specs.Runs.{Content}
use Rattle.plan_model.specs.Views.{limits_value, plan_value}
use Rattle.plan_checker.specs.Room.{HasRoom, room_value}
use Rattle.plan_checker.proofs.RoomSizes.{is_named, on_good, room_for, value_for}
use Rattle.plan_checker.proofs.check.check_plan.Goals as goal

pub invariant_of-room : goal.invariant_of-room
invariant_of-room c =
    let v = room_value c.room.inside.rooms in
    is_named c.check_listed.new.room v.modules v.pairs v.tests (c.check_listed.ensures.room v.modules v.pairs v.tests c.room.invariant)

pub returns-clause-right : goal.returns-clause-right
returns-clause-right c = on_good c.check_listed.result (IsFaultless (soc_value c.args.soc.now) (limits_value c.args.limits.now) (plan_value c.args.plan.now)) ((content : Content) → IsRight (soc_value c.args.soc.now) (limits_value c.args.limits.now) (plan_value c.args.plan.now) content)
    (λ faultless content. c.good_plans_run_right.ensures (soc_value c.args.soc.now) (limits_value c.args.limits.now) (plan_value c.args.plan.now) content faultless.0) c.check_listed.ensures.ok

pub returns-clause-room : goal.returns-clause-room
returns-clause-room c =
    let soc = soc_value c.args.soc.now in
    let has = room_for c.room.inside.rooms soc (subst (HasRoom soc) (sym c.room.view_is) c.requires.room) c.room.invariant in
    value_for c.check_listed.new.room soc (c.check_listed.ensures.room (length soc.modules) (length (used_pairs soc)) (length (live_tests soc)) has)

pub returns-clause-serves : goal.returns-clause-serves
returns-clause-serves c = λ chip old.
    let has = room_for c.room.inside.rooms chip (subst (HasRoom chip) (sym c.room.view_is) old) c.room.invariant in
    value_for c.check_listed.new.room chip (c.check_listed.ensures.room (length chip.modules) (length (used_pairs chip)) (length (live_tests chip)) has)
