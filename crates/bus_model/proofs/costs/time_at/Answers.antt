use Rattle.std.proofs.Common.{arith}
use Rattle.std.proofs.lemmas.List.Sums.{sum_by_more_le}
use Rattle.width_table.specs.Tables.{time_of}
use Rattle.bus_model.proofs.Times.{listed-in_range, places_time-bound}
use Rattle.bus_model.proofs.costs.time_at.Goals as goal

pub time-sum-requires-clause-place : goal.time-sum-requires-clause-place
time-sum-requires-clause-place c = listed-in_range _ _ c.wires-wires.ensures.table c.requires.listed c.loop-place.place-index 0 c.loop-place-test.true

pub overflow_add-sum : goal.overflow_add-sum
overflow_add-sum c =
    let most = places_time-bound c.args.table.now c.args.width c.args.places.now c.wires-wires.ensures.table c.requires.listed c.requires.some c.requires.width in
    let part = sum_by_more_le (λ p. time_of c.args.table.now p c.args.width) c.args.places.now c.loop-place.place-index 0 c.loop-place-test.true in
    let so_far = c.loop-place.invariant in
    let one = c.time-sum.ensures.time in
    omega arith
