use Rattle.std.proofs.Common.{arith, rules}
use Rattle.std.specs.List.Sorted.{IsPermutation}
use Rattle.plan_model.specs.Views.{limits_value}
use Rattle.live_tests.specs.Events.{all_events}
use Rattle.live_tests.specs.Loads.{drawn_by, IsLoad}
use Rattle.live_tests.proofs.Reading.{end_by, load_is}
use Rattle.live_tests.proofs.power_events.power_steps.Goals as goal

pub swept-requires-clause-ended : goal.swept-requires-clause-ended
swept-requires-clause-ended c = λ d.
    let limits = limits_value c.args.limits.now in
    let tests = c.args.tests.now in
    let moved : IsPermutation (all_events limits tests) c.deref.result.now = search rules in
    let load : IsLoad (drawn_by limits tests) c.deref.result.now = load_is limits tests c.deref.result.now c.requires.steps moved in
    omega (arith, load d)

pub swept-requires-clause-fits : goal.swept-requires-clause-fits
swept-requires-clause-fits c = λ d.
    let limits = limits_value c.args.limits.now in
    let tests = c.args.tests.now in
    let moved : IsPermutation (all_events limits tests) c.deref.result.now = search rules in
    let load : IsLoad (drawn_by limits tests) c.deref.result.now = load_is limits tests c.deref.result.now c.requires.steps moved in
    omega (arith, load d, c.requires.fits d)

pub returns : goal.returns
returns c = λ last ends.
    let limits = limits_value c.args.limits.now in
    let tests = c.args.tests.now in
    let moved : IsPermutation (all_events limits tests) c.deref.result.now = search rules in
    c.swept.ensures (drawn_by limits tests) last (load_is limits tests c.deref.result.now c.requires.steps moved) (end_by limits tests c.deref.result.now last moved ends)
