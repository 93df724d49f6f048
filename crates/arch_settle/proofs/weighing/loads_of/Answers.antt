use Rattle.std.proofs.Common.{arith, ◌≡◌, ◌<◌, ◌++◌, ◌∷◌, [], ◌∙◌, sym, ap, subst, refl, length}
use Rattle.bus_model.specs.Buses.{arch_value, no_bus, bus_time_of}
use Rattle.bus_model.proofs.Views.{value_at, value_length}
use Rattle.bus_model.proofs.SoundLemmas.{sound_item}
use Rattle.arch_settle.specs.declared.weighing.WeighedBus.{WeighedBus}
use Rattle.arch_settle.specs.Loads.{AreLoads, loads_value}
use Rattle.arch_settle.proofs.LoadLemmas.{loads_push, loads_push_value}
use Rattle.arch_settle.specs.declared.weighing.BusModules.TheVariants.{One}
use Rattle.arch_settle.proofs.weighing.loads_of.Goals as goal

pub bus_time-requires : goal.bus_time-requires
bus_time-requires c =
    let items = c.deref-bus-items.ensures.value in
    sound_item c.args.table.now c.args.arch.now.buses.items c.loop-at.at c.bus-item.result c.requires.sound
    (rw (← items) c.loop-at-test.true) (rw (← items) c.bus-item.is)

pub loop-at-preserved : goal.loop-at-preserved
loop-at-preserved c =
    let A = arch_value c.args.arch.now in
    let items = c.deref-bus-items.ensures.value in
    let h : c.loop-at.at < length c.args.arch.now.buses.items = rw (← items) c.loop-at-test.true in
    let n = value_length c.args.arch.now.buses.items in
    let k : c.loop-at.at < length A = omega arith in
    let read = value_at c.args.arch.now.buses.items c.loop-at.at c.bus-item.result no_bus h (rw (← items) c.bus-item.is) in
    let new : WeighedBus = record { held = One c.loop-at.at; width = c.bus-item.result.width; time = c.bus_time.result } in
    let pushed : c.push.new.to.items ≡ c.loop-at.loads.items ++ new ∷ [] = c.in_ok-push.ensures.ok in
    let width = ap (λ b. b.width) (sym read) in
    let time = c.bus_time.ensures ∙ ap (bus_time_of c.args.table.now) (sym read) in
    record {
      value = λ from into. ap (loads_value A from into) pushed ∙ loads_push_value A from into c.loop-at.at c.loop-at.loads.items new k (c.loop-at.invariant.value from into) refl width;
      loads = λ from into. subst (AreLoads c.args.table.now A from into) (sym pushed) (loads_push c.args.table.now A from into c.loop-at.at c.loop-at.loads.items new k (c.loop-at.invariant.loads from into) refl width time);
    }
