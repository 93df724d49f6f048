use Rattle.std.proofs.Common.{arith, ◌<◌, ◌∙◌, ap, length, slice_index}
use Rattle.std.proofs.lemmas.Grind.{get_or_default_zero}
use Rattle.width_table.specs.Tables.{time_of}
use Rattle.bus_model.specs.Buses.{arch_value, bus_at, no_bus}
use Rattle.bus_model.proofs.SoundLemmas.{sound_bus}
use Rattle.arch_settle.proofs.MoveLemmas.{kept_time, cost_of-moved, place_time-le, bus_places-bound}
use Rattle.arch_settle.proofs.moving.cost_to.Goals as goal

pub overflow_add-reached : goal.overflow_add-reached
overflow_add-reached c =
    let A = arch_value c.args.arch.now in
    let w = c.requires.weights in
    let bus = sound_bus c.args.table.now A c.args.bus no_bus c.requires.sound c.requires.bus in
    let kept = kept_time c.args.table.now A c.args.weights.now.times.items c.args.bus c.index-2.result.now w.times c.requires.bus c.index-2.ensures in
    let whole = bus_places-bound c.args.table.now A c.args.bus (bus_at A c.args.bus).width c.wires-wires.ensures.table c.requires.sound c.requires.bus bus.some bus.within in
    let part = place_time-le c.args.table.now (bus_at A c.args.weights.now.bus).places c.args.nth (bus_at A c.args.bus).width c.requires.nth in
    let most = bus_places-bound c.args.table.now A c.args.weights.now.bus (bus_at A c.args.bus).width c.wires-wires.ensures.table c.requires.sound w.bus bus.some bus.within in
    let more = c.time-more.ensures.time ∙ (ap (λ p. time_of c.args.table.now p c.width_of-2.result) c.place_of-place.ensures.value
    ∙ ap (time_of c.args.table.now (slice_index (bus_at A c.args.weights.now.bus).places c.args.nth)) c.width_of-2.ensures) in
    omega arith

pub returns : goal.returns
returns c =
    let A = arch_value c.args.arch.now in
    let w = c.requires.weights in
    let b = c.args.weights.now.bus in
    let place = slice_index (bus_at A b).places c.args.nth in
    let here = kept_time c.args.table.now A c.args.weights.now.times.items b c.index.result.now w.times w.bus c.index.ensures in
    let there = kept_time c.args.table.now A c.args.weights.now.times.items c.args.bus c.index-2.result.now w.times c.requires.bus c.index-2.ensures in
    let less = c.time-less.ensures.time ∙ (ap (λ p. time_of c.args.table.now p c.width_of.result) c.place_of-place.ensures.value ∙ ap (time_of c.args.table.now place) c.width_of.ensures) in
    let more = c.time-more.ensures.time ∙ (ap (λ p. time_of c.args.table.now p c.width_of-2.result) c.place_of-place.ensures.value ∙ ap (time_of c.args.table.now place) c.width_of-2.ensures) in
    let h : c.args.bus < length c.args.weights.now.besides.items = omega (arith, w.count, c.requires.bus) in
    let besides = c.index-3.ensures ∙ (get_or_default_zero c.args.weights.now.besides.items c.args.bus c.index-3.result.now h ∙ w.besides c.args.bus c.requires.bus) in
    let cost = cost_of-moved c.args.table.now A b c.args.nth c.args.bus w.bus c.requires.bus c.requires.differ c.requires.nth in
    let first = c.max.ensures in
    let second = c.max-2.ensures in
    omega arith
