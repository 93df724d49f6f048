use Rattle.std.proofs.Common.{get_or, None}
use Rattle.std.proofs.lemmas.Option.{slice_get_within, slice_get-get_or, get_or_from_slice_get}
use Rattle.plan_model.specs.Views.{limits_value}
use Rattle.live_tests.specs.declared.placed.PlacedTest.{PlacedTest}
use Rattle.live_tests.specs.Events.{profile_place}
use Rattle.plan_checker.proofs.power.profile_of.Goals as goal

none : PlacedTest
none = record { id = record { «module» = 0; test = 0 }; place = 0; bus = None; start = 0; end = 0; power = 0 }

pub bounds-load-place : goal.bounds-load-place
bounds-load-place c =
    let j = get_or c.args.load.now.placed.now c.args.place none in
    slice_get_within c.args.load.now.profiles.now c.args.place (profile_place (limits_value c.args.load.now.limits.now) j.id) (c.requires.load.places c.args.place j (slice_get-get_or c.args.load.now.placed.now c.args.place none c.requires.within))

pub returns : goal.returns
returns c = λ j at. get_or_from_slice_get c.args.load.now.profiles.now c.args.place (profile_place (limits_value c.args.load.now.limits.now) j.id) 0 (c.requires.load.places c.args.place j at)
