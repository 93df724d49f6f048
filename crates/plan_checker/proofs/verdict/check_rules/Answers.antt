use Rattle.std.proofs.Common.{◌∙◌, ap, length, arith}
use Rattle.soc_model.specs.Chips.{soc_value}
use Rattle.plan_model.specs.Views.{limits_value, plan_value}
use Rattle.plan_model.specs.Rules.{Known, Wrappers, Proper, Starts}
use Rattle.plan_checker.proofs.Finding.{number_at}
use Rattle.plan_checker.proofs.Naming.{known_wrapped}
use Rattle.plan_checker.proofs.RoomSizes.{with_long}
use Rattle.plan_checker.proofs.Stepping.{good_verdict}
use Rattle.plan_checker.proofs.verdict.check_rules.Goals as goal

pub check_tests-requires-clause-known : goal.check_tests-requires-clause-known
check_tests-requires-clause-known c = known_wrapped (soc_value c.args.soc.now) c.args.plan.now c.requires.sound.keyed (c.in-None.ensures.verdict Known (omega arith))

pub check_placed-requires-clause-placing : goal.check_placed-requires-clause-placing
check_placed-requires-clause-placing c = record {
  sound = c.requires.sound;
  wrapped = (c.in-None-check_tests.ensures.verdict Wrappers (omega arith)).1;
  proper = c.in-None-check_tests.ensures.verdict Proper (omega arith);
  early = c.requires.early;
  started = (c.in-None-check_tests.ensures.verdict Starts (omega arith)).1;
  starts_are = c.in-None-check_tests.ensures.started;
  pairs_are = c.in-None-check_tests.ensures.paired;
  buses_are = λ p m at. c.in-None.ensures.marked p m.number (number_at (soc_value c.args.soc.now).modules p m at);
}

pub returns-in-Some-clause-marks_long : goal.returns-in-Some-clause-marks_long
returns-in-Some-clause-marks_long c = with_long c.args.rooms.now.marks c.check_buses.new.marks (c.check_buses.auto.marks ∙ ap length c.deref_mut-marks.ensures.value)

pub returns-in-Some-check_tests-clause-marks_long : goal.returns-in-Some-check_tests-clause-marks_long
returns-in-Some-check_tests-clause-marks_long c = with_long c.args.rooms.now.marks c.check_buses.new.marks (c.check_buses.auto.marks ∙ ap length c.deref_mut-marks.ensures.value)

pub returns-in-None-check_tests-clause-good : goal.returns-in-None-check_tests-clause-good
returns-in-None-check_tests-clause-good c = good_verdict (soc_value c.args.soc.now) (limits_value c.args.limits.now) (plan_value c.args.plan.now) c.check_placed.result c.check_placed.ensures.verdict

pub returns-in-None-check_tests-clause-marks_long : goal.returns-in-None-check_tests-clause-marks_long
returns-in-None-check_tests-clause-marks_long c = with_long c.args.rooms.now.marks c.check_buses.new.marks (c.check_buses.auto.marks ∙ ap length c.deref_mut-marks.ensures.value)

pub check_tests-requires-clause-early : goal.check_tests-requires-clause-early
check_tests-requires-clause-early c = c.requires.early

pub check_placed-requires-clause-kept : goal.check_placed-requires-clause-kept
check_placed-requires-clause-kept c = c.in-None-check_tests.ensures.verdict

pub check_placed-requires-clause-limits : goal.check_placed-requires-clause-limits
check_placed-requires-clause-limits c = c.requires.limits

pub check_placed-requires-clause-parents_fit : goal.check_placed-requires-clause-parents_fit
check_placed-requires-clause-parents_fit c = c.requires.parents_fit

pub check_placed-requires-clause-tests_fit : goal.check_placed-requires-clause-tests_fit
check_placed-requires-clause-tests_fit c = c.requires.tests_fit

pub check_placed-requires-clause-begins_fit : goal.check_placed-requires-clause-begins_fit
check_placed-requires-clause-begins_fit c = c.requires.begins_fit

pub check_placed-requires-clause-ends_fit : goal.check_placed-requires-clause-ends_fit
check_placed-requires-clause-ends_fit c = omega (arith, c.requires.ends_fit, c.requires.marks_fit, c.requires.parents_fit)

pub check_placed-requires-clause-profiles_fit : goal.check_placed-requires-clause-profiles_fit
check_placed-requires-clause-profiles_fit c = c.requires.profiles_fit

pub check_placed-requires-clause-events_fit : goal.check_placed-requires-clause-events_fit
check_placed-requires-clause-events_fit c = c.requires.events_fit
