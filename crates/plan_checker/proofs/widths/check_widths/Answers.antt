use Rattle.std.proofs.Common.{◌≡◌, suc, Some, List, [], ◌∷◌, length, get_or, map, refl, ap, arith, slice_get}
use Rattle.std.proofs.lemmas.List.Sums.{sum_by_more}
use Rattle.std.proofs.lemmas.Option.{slice_get_read, slice_get_within, get_or_from_slice_get}
use Rattle.plan_model.specs.Plans.{BusValue}
use Rattle.plan_model.specs.Views.{bus_value}
use Rattle.plan_model.specs.Rules.{FitsWires}
use Rattle.plan_checker.specs.Wires.{FitsIn}
use Rattle.plan_model.proofs.FirstBreaches.{each_more, each_all, first_here}
use Rattle.plan_checker.proofs.widths.check_widths.Goals.{then-bus-eq0-via-then-bus-eq0, then-bus-eq0-via-else-bus-eq0+then-bus-left}
use Rattle.common_lemmas.proofs.Lists.{map_at}
use Rattle.plan_checker.proofs.widths.check_widths.Goals as goal

length_values : {X Y : Type 0} (f : X → Y) (xs : List X) → length (map f xs) ≡ length xs
length_values f [] = refl
length_values f (x ∷ xs) = ap suc (length_values f xs)

pub returns-then-bus-eq0 : goal.returns-then-bus-eq0
returns-then-bus-eq0 c = λ soc limits plan buses wires.
    let at : slice_get (map bus_value c.args.buses.now) c.loop-place.place ≡ Some (bus_value c.index-buses-place.result) = map_at bus_value c.args.buses.now c.loop-place.place c.index-buses-place.result (slice_get_read c.args.buses.now (length c.args.buses.now) c.loop-place.place c.index-buses-place.result refl (omega arith) c.index-buses-place.is) in
    let left = c.loop-place.invariant.left in (
      (
        bus_value c.index-buses-place.result,
        rw (← buses) (first_here (FitsWires limits) (map bus_value c.args.buses.now) c.loop-place.place (bus_value c.index-buses-place.result) (rw wires at c.loop-place.invariant.each) at
            (λ fits. elim c.then-bus-eq0.branch [
              | then-bus-eq0-via-then-bus-eq0 w ↦ omega (arith, fits.0, w.if-bus-eq0.true)
              | then-bus-eq0-via-else-bus-eq0+then-bus-left w ↦ omega (arith, fits.1, w.if-bus-left.true, left, wires)
            ])),
      ),
      refl,
    )

pub loop-place-preserved : goal.loop-place-preserved
loop-place-preserved c =
    let at : slice_get (map bus_value c.args.buses.now) c.loop-place.place ≡ Some (bus_value c.index-buses-place.result) = map_at bus_value c.args.buses.now c.loop-place.place c.index-buses-place.result (slice_get_read c.args.buses.now (length c.args.buses.now) c.loop-place.place c.index-buses-place.result refl (omega arith) c.index-buses-place.is) in
    let more = sum_by_more (λ (b : BusValue). b.width) (map bus_value c.args.buses.now) c.loop-place.place (bus_value c.index-buses-place.result) (slice_get_within (map bus_value c.args.buses.now) c.loop-place.place (bus_value c.index-buses-place.result) at) in
    let item : get_or (map bus_value c.args.buses.now) c.loop-place.place (bus_value c.index-buses-place.result) ≡ bus_value c.index-buses-place.result = get_or_from_slice_get (map bus_value c.args.buses.now) c.loop-place.place (bus_value c.index-buses-place.result) (bus_value c.index-buses-place.result) at in
    let more' = rw item at more in
    record {
      each = each_more (FitsIn c.args.wires) (map bus_value c.args.buses.now) c.loop-place.place (bus_value c.index-buses-place.result) c.loop-place.invariant.each at (omega arith, omega (arith, c.loop-place.invariant.left));
      left = omega (arith, more', c.loop-place.invariant.left);
    }

pub returns : goal.returns
returns c = λ soc limits plan buses wires. rw (← buses) (each_all (FitsWires limits) (map bus_value c.args.buses.now) c.loop-place.place (omega (arith, length_values bus_value c.args.buses.now)) (rw wires at c.loop-place.invariant.each))
