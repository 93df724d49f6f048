use Rattle.std.proofs.Common.{length, map, refl, arith}
use Rattle.std.proofs.lemmas.Option.{slice_get_read}
use Rattle.soc_model.specs.Chips.{soc_value}
use Rattle.plan_model.specs.Views.{wrapper_value}
use Rattle.plan_model.specs.Rules.{HasProperCells}
use Rattle.plan_model.proofs.FirstBreaches.{each_more, each_all, first_here}
use Rattle.plan_checker.proofs.Rooms.{length_values}
use Rattle.plan_checker.proofs.known.check_wrapped.Goals as goal
use Rattle.common_lemmas.proofs.Lists.{map_at}

pub returns-then-not-cells_fit : goal.returns-then-not-cells_fit
returns-then-not-cells_fit c = λ limits plan wrappers.
    let at = map_at wrapper_value c.args.wrappers.now c.loop-wrapper.wrapper-index c.wrapper-item.result (slice_get_read c.args.wrappers.now (length c.args.wrappers.now) c.loop-wrapper.wrapper-index c.wrapper-item.result refl (omega arith) c.wrapper-item.is) in
    ((c.loop-wrapper.wrapper-index, wrapper_value c.wrapper-item.result, rw (← wrappers) (first_here (HasProperCells (soc_value c.args.soc.now)) (map wrapper_value c.args.wrappers.now) c.loop-wrapper.wrapper-index (wrapper_value c.wrapper-item.result) c.loop-wrapper.invariant at (c.if-not-cells_fit.ensures.broken refl)), refl), refl)

pub loop-wrapper-preserved : goal.loop-wrapper-preserved
loop-wrapper-preserved c =
    let at = map_at wrapper_value c.args.wrappers.now c.loop-wrapper.wrapper-index c.wrapper-item.result (slice_get_read c.args.wrappers.now (length c.args.wrappers.now) c.loop-wrapper.wrapper-index c.wrapper-item.result refl (omega arith) c.wrapper-item.is) in
    each_more (HasProperCells (soc_value c.args.soc.now)) (map wrapper_value c.args.wrappers.now) c.loop-wrapper.wrapper-index (wrapper_value c.wrapper-item.result) c.loop-wrapper.invariant at (c.if-not-cells_fit.ensures.kept refl)

pub returns : goal.returns
returns c = λ limits plan wrappers. rw (← wrappers) (each_all (HasProperCells (soc_value c.args.soc.now)) (map wrapper_value c.args.wrappers.now) c.loop-wrapper.wrapper-index (omega (arith, length_values wrapper_value c.args.wrappers.now)) c.loop-wrapper.invariant)
