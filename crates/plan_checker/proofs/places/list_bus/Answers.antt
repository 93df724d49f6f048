use Rattle.std.proofs.Common.{take, get_or, arith}
use Rattle.std.proofs.lemmas.Option.{slice_get_within, slice_get-get_or}
use Rattle.std.proofs.lemmas.List.{take_all}
use Rattle.soc_model.specs.Chips.{soc_value, numbers}
use Rattle.plan_checker.specs.Marks.{IsUnlisted}
use Rattle.plan_model.proofs.FirstBreaches.{each_more, each_all, first_here}
use Rattle.plan_checker.proofs.Marking.{unmarked, marked_before, mark_more}
use Rattle.plan_checker.proofs.places.list_bus.Goals as goal

pub known_place-place-requires-clause-known : goal.known_place-place-requires-clause-known
known_place-place-requires-clause-known c = c.requires.known c.loop-number.number-index _ (slice_get-get_or c.args.listed.now c.loop-number.number-index 0 (omega arith))

pub bounds-marks-place : goal.bounds-marks-place
bounds-marks-place c = slice_get_within c.loop-number.marks c.known_place-place.result _ (c.loop-number.invariant.marked c.known_place-place.result _ c.known_place-place.ensures)

pub returns-then-marks-place-clause-first : goal.returns-then-marks-place-clause-first
returns-then-marks-place-clause-first c = (
  c.loop-number.number-index,
  first_here (IsUnlisted (numbers (soc_value c.args.soc.now)) c.args.count c.args.marks.now) c.args.listed.now c.loop-number.number-index (get_or c.args.listed.now c.loop-number.number-index 0) c.loop-number.invariant.each (slice_get-get_or c.args.listed.now c.loop-number.number-index 0 (omega arith))
      (marked_before (numbers (soc_value c.args.soc.now)) c.args.count c.args.bus c.args.marks.now c.loop-number.marks (take c.loop-number.number-index c.args.listed.now) c.known_place-place.result _ c.loop-number.invariant.marked c.known_place-place.ensures (omega arith)),
)

pub loop-number-preserved : goal.loop-number-preserved
loop-number-preserved c = record {
  each = each_more (IsUnlisted (numbers (soc_value c.args.soc.now)) c.args.count c.args.marks.now) c.args.listed.now c.loop-number.number-index (get_or c.args.listed.now c.loop-number.number-index 0) c.loop-number.invariant.each (slice_get-get_or c.args.listed.now c.loop-number.number-index 0 (omega arith))
      (unmarked (numbers (soc_value c.args.soc.now)) c.args.count c.args.bus c.args.marks.now c.loop-number.marks (take c.loop-number.number-index c.args.listed.now) c.known_place-place.result _ c.requires.within c.requires.marks c.loop-number.invariant.marked c.requires.sound.modules_differ c.known_place-place.ensures (omega arith));
  marked = mark_more (numbers (soc_value c.args.soc.now)) c.args.bus c.args.marks.now c.loop-number.marks c.args.listed.now c.loop-number.number-index c.known_place-place.result _ c.loop-number.invariant.marked c.requires.sound.modules_differ (slice_get-get_or c.args.listed.now c.loop-number.number-index 0 (omega arith)) c.known_place-place.ensures;
}

pub returns-clause-new : goal.returns-clause-new
returns-clause-new c = each_all (IsUnlisted (numbers (soc_value c.args.soc.now)) c.args.count c.args.marks.now) c.args.listed.now c.loop-number.number-index (omega arith) c.loop-number.invariant.each

pub returns-clause-marked : goal.returns-clause-marked
returns-clause-marked c = rw (take_all c.loop-number.number-index c.args.listed.now (omega arith)) at c.loop-number.invariant.marked

pub bounds-marks-place-in-loop-number : goal.bounds-marks-place-in-loop-number
bounds-marks-place-in-loop-number c = slice_get_within c.loop-number.marks c.known_place-place.result _ (c.loop-number.invariant.marked c.known_place-place.result _ c.known_place-place.ensures)

pub offset_bounds-marks-place-in-loop-number : goal.offset_bounds-marks-place-in-loop-number
offset_bounds-marks-place-in-loop-number c = omega (arith, slice_get_within c.loop-number.marks c.known_place-place.result _ (c.loop-number.invariant.marked c.known_place-place.result _ c.known_place-place.ensures))

pub offset_bounds-marks-place : goal.offset_bounds-marks-place
offset_bounds-marks-place c = omega (arith, slice_get_within c.loop-number.marks c.known_place-place.result _ (c.loop-number.invariant.marked c.known_place-place.result _ c.known_place-place.ensures))
