use Rattle.std.proofs.Common.{◌≡◌, ◌≤◌, ◌<◌, Some, length, arith}
use Rattle.std.specs.Prelude.{slice_get, slice_index}
use Rattle.std.proofs.lemmas.Option.{slice_get-get_or}
use Rattle.soc_model.specs.Chips.{soc_value, level_at}
use Rattle.live_tests.proofs.Levels.{look_on, look_shrinks}
use Rattle.live_tests.proofs.parent_places.parent_of.Goals as goal

pub loop-at-smaller : goal.loop-at-smaller
loop-at-smaller c =
    let here : c.loop-at.at < length (soc_value c.args.soc.now).modules = omega (arith, c.loop-at-test.true, c.module_count-count.ensures) in
    let read : slice_get c.args.parents.now c.loop-at.at ≡ Some (slice_index c.args.parents.now c.loop-at.at) = slice_get-get_or c.args.parents.now c.loop-at.at 0 (omega (arith, here, c.requires.long)) in
    look_shrinks (soc_value c.args.soc.now) c.args.parents.now c.args.place c.loop-at.at (slice_index c.args.parents.now c.loop-at.at) c.loop-at.invariant here c.requires.earlier read

pub loop-at-preserved : goal.loop-at-preserved
loop-at-preserved c =
    let here : c.loop-at.at < length (soc_value c.args.soc.now).modules = omega (arith, c.loop-at-test.true, c.module_count-count.ensures) in
    let read : slice_get c.args.parents.now c.loop-at.at ≡ Some (slice_index c.args.parents.now c.loop-at.at) = slice_get-get_or c.args.parents.now c.loop-at.at 0 (omega (arith, here, c.requires.long)) in
    let high : level_at (soc_value c.args.soc.now).modules c.args.place ≤ level_at (soc_value c.args.soc.now).modules c.loop-at.at = omega (arith, c.if-level_of-level.false, c.level_of.ensures, c.level_of-level.ensures) in
    look_on (soc_value c.args.soc.now) c.args.parents.now c.args.place c.loop-at.at (slice_index c.args.parents.now c.loop-at.at) c.loop-at.invariant c.requires.there here c.requires.earlier high read
