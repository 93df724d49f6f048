use Rattle.std.proofs.Common.{arith, ◌≡◌, ◌∙◌, ◌<◌, sym, ap, subst, length}
use Rattle.bus_model.specs.Buses.{bus_time_of, arch_value, no_bus}
use Rattle.bus_model.proofs.Views.{value_at, value_length}
use Rattle.bus_model.proofs.SoundLemmas.{sound_among}
use Rattle.bus_model.proofs.Least.{IsFirstLeast, least_none, least_takes, least_keeps, quickest_of-first_least}
use Rattle.bus_model.proofs.costs.quickest.Goals as goal
use Rattle.bus_model.proofs.costs.quickest.Goals.{then-time-least, else-time-least}

pub bus_time-least-requires : goal.bus_time-least-requires
bus_time-least-requires c =
    let n = value_length c.args.arch.now.buses.items in
    let some = c.requires.some in
    sound_among c.args.table.now c.args.arch.now.buses.items 0 c.index.result.now c.requires.buses (omega arith) c.index.ensures

pub bus_time-time-requires : goal.bus_time-time-requires
bus_time-time-requires c =
    sound_among c.args.table.now c.args.arch.now.buses.items c.loop-i.i c.index-in-loop-i.result.now c.requires.buses (omega arith) c.index-in-loop-i.ensures

pub loop-i-init : goal.loop-i-init
loop-i-init c =
    let some : 0 < length c.args.arch.now.buses.items = omega (arith, c.requires.some, value_length c.args.arch.now.buses.items) in
    record {
      first = least_none (bus_time_of c.args.table.now) (arch_value c.args.arch.now) no_bus;
      time = c.bus_time-least.ensures ∙ ap (bus_time_of c.args.table.now) (sym (value_at c.args.arch.now.buses.items 0 c.index.result.now no_bus some c.index.ensures));
    }

pub loop-i-preserved : goal.loop-i-preserved
loop-i-preserved c =
    let n = value_length c.args.arch.now.buses.items in
    let h : c.loop-i.i < length c.args.arch.now.buses.items = omega arith in
    let read = ap (bus_time_of c.args.table.now) (value_at c.args.arch.now.buses.items c.loop-i.i c.index-in-loop-i.result.now no_bus h c.index-in-loop-i.ensures) in
    let time = c.bus_time-time.ensures in
    let now = c.loop-i.invariant.time in
    elim c.if-time-least.branch [
      | then-time-least w ↦ rw (w.at-is, w.least-is) (record {
        first = least_takes (bus_time_of c.args.table.now) (arch_value c.args.arch.now) no_bus c.loop-i.i c.loop-i.at c.loop-i.invariant.first (omega arith);
        time = omega arith;
      })
      | else-time-least w ↦ rw (w.at-is, w.least-is) (record {
        first = least_keeps (bus_time_of c.args.table.now) (arch_value c.args.arch.now) no_bus c.loop-i.i c.loop-i.at c.loop-i.invariant.first (omega arith);
        time = now;
      })
    ]

pub returns-clause-value : goal.returns-clause-value
returns-clause-value c =
    let n = value_length c.args.arch.now.buses.items in
    let some = c.requires.some in
    let end : c.loop-i.i ≡ length (arch_value c.args.arch.now) = omega arith in
    sym (quickest_of-first_least c.args.table.now (arch_value c.args.arch.now) c.loop-i.at
    (subst (λ i. IsFirstLeast (bus_time_of c.args.table.now) (arch_value c.args.arch.now) no_bus i c.loop-i.at) end c.loop-i.invariant.first))
