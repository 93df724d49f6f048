use Rattle.std.proofs.Common.{◌<◌, ◌+◌, ◌-◌, length, arith, rules}
use Rattle.busy_times.proofs.Profiles.{mark_removed}
use Rattle.busy_times.proofs.Marked.{mark_from, mark_behind, mark_cycle, mark_used}
use Rattle.busy_times.proofs.marks.remove_mark.Goals as goal

pub loop-place-init : goal.loop-place-init
loop-place-init c =
    let parts = rw c.deref.ensures.value at c.places_before_near-place.ensures.parts in
    record {
      late = (λ k d low high. parts.1 k d low high);
      there = mark_from c.args.cycle c.places_before_near-place.result c.args.points.now.items parts c.requires.there;
    }

pub index-requires : goal.index-requires
index-requires c = omega (arith, c.args.points.now.ok.0, (mark_cycle c.args.cycle c.loop-place.place c.args.points.now.items c.requires.ordered c.loop-place.invariant.late c.loop-place.invariant.there).0)

pub overflow_add-place : goal.overflow_add-place
overflow_add-place c =
    let lt = (mark_cycle c.args.cycle c.loop-place.place c.args.points.now.items c.requires.ordered c.loop-place.invariant.late c.loop-place.invariant.there).0 in
    search rules

pub loop-place-smaller : goal.loop-place-smaller
loop-place-smaller c =
    let lt = (mark_cycle c.args.cycle c.loop-place.place c.args.points.now.items c.requires.ordered c.loop-place.invariant.late c.loop-place.invariant.there).0 in
    let less : length c.args.points.now.items - (c.loop-place.place + 1) < length c.args.points.now.items - c.loop-place.place = omega (arith, lt) in
    search rules

pub loop-place-preserved : goal.loop-place-preserved
loop-place-preserved c = record {
  late = (λ k d low high. c.loop-place.invariant.late k d (omega (arith, low)) high);
  there = mark_behind c.args.cycle c.loop-place.place c.args.points.now.items c.index.result.now c.loop-place.invariant.there c.index.ensures c.loop-place-test.true;
}

pub use_less-requires-clause-place : goal.use_less-requires-clause-place
use_less-requires-clause-place c = (mark_cycle c.args.cycle c.loop-place.place c.args.points.now.items c.requires.ordered c.loop-place.invariant.late c.loop-place.invariant.there).0

pub use_less-requires-clause-some : goal.use_less-requires-clause-some
use_less-requires-clause-some c =
    mark_used c.loop-place.place c.args.points.now.items c.index.result.now (mark_cycle c.args.cycle c.loop-place.place c.args.points.now.items c.requires.ordered c.loop-place.invariant.late c.loop-place.invariant.there).0 c.index.ensures c.loop-place-test.false

pub returns-clause-points : goal.returns-clause-points
returns-clause-points c = λ held cycles are.
    let items = c.args.points.now.items in
    let place = c.loop-place.place in
    let here = mark_cycle c.args.cycle place items c.requires.ordered c.loop-place.invariant.late c.loop-place.invariant.there in
    let some = mark_used place items c.index.result.now here.0 c.index.ensures c.loop-place-test.false in
    rw c.use_less.ensures.items (mark_removed held cycles items place c.args.cycle are here.0 here.1 some)
