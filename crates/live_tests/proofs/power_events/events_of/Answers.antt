use Rattle.std.proofs.Common.{◌≡◌, ◌∙◌, ℕ, ◌+◌, ◌<◌, List, [], length, take, ap, ◌++◌, None, get_or, position, sym}
use Rattle.std.proofs.lemmas.List.{flat_map_more, take_more}
use Rattle.std.specs.List.{flat_map}
use Rattle.live_tests.specs.declared.power_events.Event.{Event}
use Rattle.std.proofs.lemmas.Option.{slice_get-get_or}
use Rattle.soc_model.specs.Chips.{same_test}
use Rattle.plan_model.specs.declared.Profile.{Profile}
use Rattle.plan_model.specs.Views.{limits_value}
use Rattle.live_tests.specs.declared.placed.PlacedTest.{PlacedTest}
use Rattle.live_tests.specs.Events.{test_events}
use Rattle.live_tests.proofs.power_events.events_of.Goals as goal

nowhere : PlacedTest
nowhere = record { id = record { «module» = 0; test = 0 }; place = 0; bus = None; start = 0; end = 0; power = 0 }

more : (f : PlacedTest → List Event) (ts : List PlacedTest) (i : ℕ) (d : PlacedTest) → i < length ts → flat_map f (take i ts) ++ f (get_or ts i d) ≡ flat_map f (take (i + 1) ts)
more f ts i d within = flat_map_more f [] (take i ts) (get_or ts i d) ∙ ap (flat_map f) (sym (take_more ts i d within))

pub push_test-requires : goal.push_test-requires
unfolding nowhere
push_test-requires c =
    let i = c.loop-test.test-index in
    record {
      later = (c.requires.steps i (get_or c.args.tests.now i nowhere) (slice_get-get_or c.args.tests.now i nowhere c.loop-test-test.true)).ends_later;
      places = λ id. c.in_ok-places.ensures id ∙ ap (position (λ (p : Profile). same_test p.test id)) c.deref.ensures.value;
    }

pub loop-test-preserved : goal.loop-test-preserved
unfolding nowhere
loop-test-preserved c =
    let i = c.loop-test.test-index in
    let t = get_or c.args.tests.now i nowhere in
    c.in_ok-push_test.ensures ∙ ap (λ l. l ++ test_events (limits_value c.args.limits.now) t) c.loop-test.invariant ∙ more (test_events (limits_value c.args.limits.now)) c.args.tests.now i nowhere c.loop-test-test.true
