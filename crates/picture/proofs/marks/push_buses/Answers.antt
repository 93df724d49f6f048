use Rattle.std.proofs.Common.{◌∙◌, ◌+◌, ◌++◌, ◌<◌, ℕ, ap, length, sym, arith, slice_index}
use Rattle.std.proofs.lemmas.Option.{get_or_from_slice_get}
use Rattle.picture.specs.Marks.{bus_text}
use Rattle.picture.specs.Rectangles.{between}
use Rattle.picture.proofs.BusWires.{between_at, length-between}
use Rattle.picture.proofs.OneMore.{texts_more}
use Rattle.picture.proofs.marks.push_buses.Goals as goal

pub loop-place-preserved : goal.loop-place-preserved
loop-place-preserved c =
    let fs = c.args.firsts.now in
    let place = c.loop-place.place in
    let wires : ℕ × ℕ = (slice_index fs place, slice_index fs (place + 1)) in
    let within : place < length (between fs) = omega (arith, c.loop-place-test.true, c.bus_count-place-end.ensures.is) in
    let there = between_at fs place (omega (arith, within, length-between fs)) in
    texts_more c.args.panel.now (between fs) place wires c.loop-place.text.items c.push_bus.new.text.items _ within
    (c.in_ok-push_bus.ensures ∙ ap (λ w. c.loop-place.text.items ++ bus_text c.args.panel.now place w) (sym (get_or_from_slice_get (between fs) place wires wires there))) c.loop-place.invariant
