use Rattle.std.proofs.Common.{◌≡◌, Some, get_or, refl, arith, slice_get}
use Rattle.std.proofs.lemmas.Option.{slice_get-get_or, slice_get_within}
use Rattle.width_tree.specs.Tables.{chip_of}
use Rattle.width_tree.proofs.BusLists.{none_taken, kept_more, all_high}
use Rattle.width_tree.proofs.lists.least_widths.Goals as goal

pub loop-place-init : goal.loop-place-init
loop-place-init c = record {
  low = omega arith;
  some = c.requires.table.some_wire;
  few = omega arith;
  so_far = none_taken (chip_of c.args.table.now) c.args.table.now.wires c.args.intervals.now c.args.modules.now c.args.marks.now c.args.stamp _ c.requires.older refl refl;
  older = λ p. omega (arith, c.requires.older p);
  kept = λ n m less. absurd (omega arith);
}

pub returns-in-None-clause-exact : goal.returns-in-None-clause-exact
returns-in-None-clause-exact c = λ keeps.
    let at = slice_get-get_or c.args.modules.now c.loop-place.place 0 (omega arith) in
    c.in-None.ensures.breach (get_or c.args.modules.now c.loop-place.place 0) at (keeps c.loop-place.place (get_or c.args.modules.now c.loop-place.place 0) at)

pub loop-place-preserved : goal.loop-place-preserved
loop-place-preserved c =
    let at : slice_get c.args.modules.now c.loop-place.place ≡ Some (get_or c.args.modules.now c.loop-place.place 0) = slice_get-get_or c.args.modules.now c.loop-place.place 0 (omega (arith, c.loop-place-test.true)) in
    let both = c.in-Some.ensures.kept (get_or c.args.modules.now c.loop-place.place 0) at in
    record {
      low = c.in-Some.ensures.low;
      some = c.in-Some.ensures.some c.loop-place.invariant.some;
      few = omega (arith, c.in-Some.ensures.few, c.loop-place.invariant.few);
      so_far = both.1;
      older = c.in-Some.ensures.older c.loop-place.invariant.older;
      kept = kept_more (chip_of c.args.table.now) c.args.table.now.wires c.args.intervals.now c.args.modules.now c.loop-place.place (get_or c.args.modules.now c.loop-place.place 0) at c.loop-place.invariant.kept both.0;
    }

pub returns-clause-exact : goal.returns-clause-exact
returns-clause-exact c = (
  λ n m at. c.loop-place.invariant.kept n m (omega (arith, slice_get_within c.args.modules.now n m at)) at,
  all_high (chip_of c.args.table.now) c.args.table.now.wires c.args.intervals.now c.args.modules.now c.loop-place.place c.loop-place.marks c.args.stamp c.loop-place.least c.loop-place.invariant.so_far (omega arith),
)
