use Rattle.std.proofs.Common.{arith, ◌<◌, ◌≤◌, ◌++◌, ◌∷◌, [], ◌∙◌, sym, ap, length, take, map, get_or}
use Rattle.std.proofs.lemmas.List.{map-append, take_all, take_more}
use Rattle.bus_model.specs.Buses.{arch_value, no_bus, bus_time_of}
use Rattle.bus_model.proofs.Views.{value_at, value_length}
use Rattle.bus_model.proofs.SoundLemmas.{sound_item}
use Rattle.arch_settle.proofs.moving.bus_times.Goals as goal

pub bus_time-requires : goal.bus_time-requires
bus_time-requires c =
    let items = c.deref-bus-items.ensures.value in
    sound_item c.args.table.now c.args.arch.now.buses.items c.loop-bus.bus-index c.bus-item.result c.requires
    (rw (← items) c.loop-bus-test.true) (rw (← items) c.bus-item.is)

pub loop-bus-preserved : goal.loop-bus-preserved
loop-bus-preserved c =
    let A = arch_value c.args.arch.now in
    let items = c.deref-bus-items.ensures.value in
    let h : c.loop-bus.bus-index < length c.args.arch.now.buses.items = rw (← items) c.loop-bus-test.true in
    let n = value_length c.args.arch.now.buses.items in
    let read = value_at c.args.arch.now.buses.items c.loop-bus.bus-index c.bus-item.result no_bus h (rw (← items) c.bus-item.is) in
    let time = c.bus_time.ensures ∙ ap (bus_time_of c.args.table.now) (sym read) in
    let more = ap (map (bus_time_of c.args.table.now)) (take_more A c.loop-bus.bus-index no_bus (omega arith)) ∙ map-append (bus_time_of c.args.table.now) (take c.loop-bus.bus-index A) (get_or A c.loop-bus.bus-index no_bus ∷ []) in
    c.in_ok-push.ensures.ok ∙ (ap (λ xs. xs ++ c.bus_time.result ∷ []) c.loop-bus.invariant ∙ (ap (λ t. map (bus_time_of c.args.table.now) (take c.loop-bus.bus-index A) ++ t ∷ []) time ∙ sym more))

pub returns : goal.returns
returns c =
    let A = arch_value c.args.arch.now in
    let items = c.deref-bus-items.ensures.value in
    let past : length c.args.arch.now.buses.items ≤ c.loop-bus.bus-index = rw (← items) c.loop-bus-test.false in
    c.loop-bus.invariant ∙ ap (map (bus_time_of c.args.table.now)) (take_all c.loop-bus.bus-index A (omega (arith, past, value_length c.args.arch.now.buses.items)))
