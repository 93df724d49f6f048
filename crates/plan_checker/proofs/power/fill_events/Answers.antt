use Rattle.std.proofs.Common.{◌++◌, ◌∙◌, ap, length, get_or, sym, arith, None}
use Rattle.std.proofs.lemmas.List.{length-append}
use Rattle.std.proofs.lemmas.Option.{slice_get-get_or}
use Rattle.plan_model.specs.Views.{limits_value}
use Rattle.live_tests.specs.declared.placed.PlacedTest.{PlacedTest}
use Rattle.live_tests.specs.Events.{test_events}
use Rattle.plan_checker.proofs.FewEvents.{more_events, few_test_events}
use Rattle.plan_checker.proofs.power.fill_events.Goals as goal

none : PlacedTest
none = record { id = record { «module» = 0; test = 0 }; place = 0; bus = None; start = 0; end = 0; power = 0 }

pub loop-place-preserved : goal.loop-place-preserved
loop-place-preserved c =
    let limits = limits_value c.args.load.now.limits.now in
    let placed = c.args.load.now.placed.now in
    let i = c.loop-place.place in
    let there = slice_get-get_or placed i none c.loop-place-test.true in
    let put = c.put_test.ensures.put (get_or placed i none) there in
    let few = few_test_events limits (get_or placed i none) (c.requires.load.steps i (get_or placed i none) there) in
    record {
      filled = put ∙ ap (λ v. v ++ test_events limits (get_or placed i none)) c.loop-place.invariant.filled ∙ sym (more_events limits placed i none c.loop-place-test.true);
      few = omega (arith, ap length put, length-append c.loop-place.events.items (test_events limits (get_or placed i none)), few, c.loop-place.invariant.few);
      room = omega (arith, c.put_test.ensures.room, c.loop-place.invariant.room);
    }
