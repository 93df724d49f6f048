use Rattle.std.proofs.Common.{◌≡◌, Some, length, map, take, refl, sym, arith, slice_get, Contains}
use Rattle.std.proofs.lemmas.List.{length-take-le, take_all}
use Rattle.std.proofs.lemmas.Option.{slice_get_read}
use Rattle.soc_model.specs.Chips.{soc_value, numbers}
use Rattle.plan_model.specs.Views.{bus_value}
use Rattle.plan_checker.proofs.Rooms.{length_values}
use Rattle.plan_checker.proofs.Breaking.{if_none}
use Rattle.plan_checker.proofs.Marking.{marks_bound, double_first, still_new, marked_more, known_on, marked_all}
use Rattle.common_lemmas.proofs.Lists.{map_at}
use Rattle.plan_checker.proofs.places.listed_twice.Goals as goal

pub list_bus-double-requires-clause-known : goal.list_bus-double-requires-clause-known
list_bus-double-requires-clause-known c =
    let at : slice_get (map bus_value c.args.buses.now) c.loop-place.place ≡ Some (bus_value c.index-buses-place.result) = map_at bus_value c.args.buses.now c.loop-place.place c.index-buses-place.result (slice_get_read c.args.buses.now (length c.args.buses.now) c.loop-place.place c.index-buses-place.result refl (omega arith) c.index-buses-place.is) in
    rw c.deref.ensures.value (known_on (Contains (numbers (soc_value c.args.soc.now))) (map bus_value c.args.buses.now) c.loop-place.place (bus_value c.index-buses-place.result) at c.requires.known)

pub list_bus-double-requires-clause-marks : goal.list_bus-double-requires-clause-marks
list_bus-double-requires-clause-marks c = marks_bound (numbers (soc_value c.args.soc.now)) (length c.args.buses.now) (take c.loop-place.place (map bus_value c.args.buses.now)) c.loop-place.marks (omega (arith, length-take-le c.loop-place.place (map bus_value c.args.buses.now) (omega (arith, length_values bus_value c.args.buses.now)))) c.loop-place.invariant.marked

pub returns-then-is_some-clause-first : goal.returns-then-is_some-clause-first
returns-then-is_some-clause-first c =
    let at : slice_get (map bus_value c.args.buses.now) c.loop-place.place ≡ Some (bus_value c.index-buses-place.result) = map_at bus_value c.args.buses.now c.loop-place.place c.index-buses-place.result (slice_get_read c.args.buses.now (length c.args.buses.now) c.loop-place.place c.index-buses-place.result refl (omega arith) c.index-buses-place.is) in
    double_first (numbers (soc_value c.args.soc.now)) (length c.args.buses.now) (map bus_value c.args.buses.now) c.loop-place.place (bus_value c.index-buses-place.result) c.loop-place.marks c.list_bus-double.result at (omega (arith, length-take-le c.loop-place.place (map bus_value c.args.buses.now) (omega (arith, length_values bus_value c.args.buses.now)))) c.loop-place.invariant.marked (known_on (Contains (numbers (soc_value c.args.soc.now))) (map bus_value c.args.buses.now) c.loop-place.place (bus_value c.index-buses-place.result) at c.requires.known) c.loop-place.invariant.new (rw c.deref.ensures.value at c.list_bus-double.ensures.first)

pub loop-place-preserved : goal.loop-place-preserved
loop-place-preserved c =
    let at : slice_get (map bus_value c.args.buses.now) c.loop-place.place ≡ Some (bus_value c.index-buses-place.result) = map_at bus_value c.args.buses.now c.loop-place.place c.index-buses-place.result (slice_get_read c.args.buses.now (length c.args.buses.now) c.loop-place.place c.index-buses-place.result refl (omega arith) c.index-buses-place.is) in
    let new = rw c.deref.ensures.value at (if_none c.list_bus-double.result _ (sym c.if-is_some.ensures) c.list_bus-double.ensures.new) in
    let marked = rw c.deref.ensures.value at (if_none c.list_bus-double.result _ (sym c.if-is_some.ensures) c.list_bus-double.ensures.marked) in
    record {
      new = still_new (numbers (soc_value c.args.soc.now)) (length c.args.buses.now) (map bus_value c.args.buses.now) c.loop-place.place (bus_value c.index-buses-place.result) c.loop-place.marks at (omega (arith, length-take-le c.loop-place.place (map bus_value c.args.buses.now) (omega (arith, length_values bus_value c.args.buses.now)))) c.loop-place.invariant.marked (known_on (Contains (numbers (soc_value c.args.soc.now))) (map bus_value c.args.buses.now) c.loop-place.place (bus_value c.index-buses-place.result) at c.requires.known) c.loop-place.invariant.new new;
      marked = marked_more (numbers (soc_value c.args.soc.now)) (length c.args.buses.now) (map bus_value c.args.buses.now) c.loop-place.place (bus_value c.index-buses-place.result) c.loop-place.marks c.list_bus-double.new.marks at (length_values bus_value c.args.buses.now) c.loop-place.invariant.marked new marked;
    }

pub returns-clause-new : goal.returns-clause-new
returns-clause-new c = rw (take_all c.loop-place.place (map bus_value c.args.buses.now) (omega (arith, length_values bus_value c.args.buses.now))) at c.loop-place.invariant.new

pub returns-clause-marked : goal.returns-clause-marked
returns-clause-marked c = marked_all (numbers (soc_value c.args.soc.now)) (map bus_value c.args.buses.now) c.loop-place.marks c.loop-place.place (omega (arith, length_values bus_value c.args.buses.now)) (rw (length_values bus_value c.args.buses.now) c.loop-place.invariant.marked)
