use Rattle.std.proofs.Common.{arith, ◌-◌, ◌∙◌, sym, ap, slice_index}
use Rattle.width_table.specs.Tables.{time_of}
use Rattle.bus_model.specs.Buses.{arch_value, bus_at}
use Rattle.arch_settle.proofs.MoveLemmas.{cost_of-split_off, place_time-le, kept_row}
use Rattle.arch_settle.proofs.moving.cost_alone.Goals as goal

pub overflow_sub-left : goal.overflow_sub-left
overflow_sub-left c =
    let A = arch_value c.args.arch.now in
    let w = c.requires.weights in
    let b = c.args.weights.now.bus in
    let place = slice_index (bus_at A b).places c.args.nth in
    let e = c.width_of.ensures in
    let row = kept_row c.args.table.now A c.args.weights.now (c.width_of.result - c.args.width) c.index.result.now w (omega (arith, c.requires.width)) (omega (arith, c.requires.some)) c.index.ensures in
    let less = c.time-less.ensures.time ∙ ap (λ p. time_of c.args.table.now p (c.width_of.result - c.args.width)) c.place_of-place.ensures.value in
    let part = place_time-le c.args.table.now (bus_at A b).places c.args.nth (c.width_of.result - c.args.width) c.requires.nth in
    omega arith

pub returns : goal.returns
returns c =
    let A = arch_value c.args.arch.now in
    let w = c.requires.weights in
    let b = c.args.weights.now.bus in
    let e = c.width_of.ensures in
    let row = kept_row c.args.table.now A c.args.weights.now (c.width_of.result - c.args.width) c.index.result.now w (omega (arith, c.requires.width)) (omega (arith, c.requires.some)) c.index.ensures in
    let less = c.time-less.ensures.time ∙ ap (λ p. time_of c.args.table.now p (c.width_of.result - c.args.width)) c.place_of-place.ensures.value in
    let own = c.time-own.ensures.time ∙ ap (λ p. time_of c.args.table.now p c.args.width) c.place_of-place.ensures.value in
    let cost = cost_of-split_off c.args.table.now A b c.args.nth c.args.width (c.width_of.result - c.args.width) w.bus c.requires.nth (ap (λ n. n - c.args.width) (sym e)) in
    let first = c.max.ensures in
    let second = c.max-2.ensures in
    let others = w.others in
    omega arith
