use Rattle.std.proofs.Common.{arith, ◌≡◌, ◌∙◌, ◌<◌, sym, ap, subst, length}
use Rattle.std.specs.List.{IsFirstMaxByKey}
use Rattle.std.proofs.lemmas.List.Sums.{best_none}
use Rattle.bus_model.specs.Buses.{bus_time_of, arch_value, no_bus}
use Rattle.bus_model.proofs.Views.{value_at, value_length}
use Rattle.bus_model.proofs.SoundLemmas.{sound_item}
use Rattle.bus_model.proofs.Greatest.{bottleneck_of-first_max, best_step_takes, best_step_keeps}
use Rattle.bus_model.proofs.costs.bottleneck.Goals as goal
use Rattle.bus_model.proofs.costs.bottleneck.Goals.{then-most-time, else-most-time}

pub bus_time-most-requires : goal.bus_time-most-requires
bus_time-most-requires c =
    sound_item c.args.table.now c.args.arch.now.buses.items 0 c.index.result.now c.requires (omega arith) c.index.ensures

pub bus_time-time-requires : goal.bus_time-time-requires
bus_time-time-requires c =
    sound_item c.args.table.now c.args.arch.now.buses.items c.loop-i.i c.index-in-loop-i.result.now c.requires (omega arith) c.index-in-loop-i.ensures

pub loop-i-init : goal.loop-i-init
loop-i-init c =
    let some : 0 < length c.args.arch.now.buses.items = omega (arith, c.if-count-eq0.false, c.len-count.ensures, c.args.arch.now.buses.ok.0) in
    record {
      first = best_none (bus_time_of c.args.table.now) (arch_value c.args.arch.now);
      time = c.bus_time-most.ensures ∙ ap (bus_time_of c.args.table.now) (sym (value_at c.args.arch.now.buses.items 0 c.index.result.now no_bus some c.index.ensures));
    }

pub loop-i-preserved : goal.loop-i-preserved
loop-i-preserved c =
    let n = value_length c.args.arch.now.buses.items in
    let h : c.loop-i.i < length c.args.arch.now.buses.items = omega arith in
    let k : c.loop-i.i < length (arch_value c.args.arch.now) = omega arith in
    let read = ap (bus_time_of c.args.table.now) (value_at c.args.arch.now.buses.items c.loop-i.i c.index-in-loop-i.result.now no_bus h c.index-in-loop-i.ensures) in
    let time = c.bus_time-time.ensures in
    let now = c.loop-i.invariant.time in
    elim c.if-most-time.branch [
      | then-most-time w ↦ rw (w.at-is, w.most-is) (record {
        first = best_step_takes (bus_time_of c.args.table.now) (arch_value c.args.arch.now) c.loop-i.i c.loop-i.at no_bus c.loop-i.invariant.first k (omega arith);
        time = omega arith;
      })
      | else-most-time w ↦ rw (w.at-is, w.most-is) (record {
        first = best_step_keeps (bus_time_of c.args.table.now) (arch_value c.args.arch.now) c.loop-i.i c.loop-i.at no_bus c.loop-i.invariant.first k (omega arith);
        time = now;
      })
    ]

pub returns : goal.returns
returns c =
    let n = value_length c.args.arch.now.buses.items in
    let end : c.loop-i.i ≡ length (arch_value c.args.arch.now) = omega arith in
    let first : IsFirstMaxByKey (bus_time_of c.args.table.now) (arch_value c.args.arch.now) (length (arch_value c.args.arch.now)) c.loop-i.at
    = subst (λ i. IsFirstMaxByKey (bus_time_of c.args.table.now) (arch_value c.args.arch.now) i c.loop-i.at) end c.loop-i.invariant.first in
    (first.0, sym (bottleneck_of-first_max c.args.table.now (arch_value c.args.arch.now) c.loop-i.at first))
