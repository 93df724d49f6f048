use Rattle.std.proofs.Common.{arith, ℕ, ◌≡◌, ◌<◌, ◌∙◌, sym, ap, subst, refl, List, [], ◌++◌, length, map, set, remove, get_or, min, max}
use Rattle.bus_model.specs.declared.ArchBus.{ArchBus}
use Rattle.bus_model.specs.Buses.{arch_value, bus_value, bus_at, no_bus, spread_of, cost_of}
use Rattle.bus_model.specs.Sound.{IsSoundArch, wires_used}
use Rattle.bus_model.proofs.Views.{value_at, value_length}
use Rattle.bus_model.proofs.SoundLemmas.{sound_bus}
use Rattle.arch_settle.specs.declared.weighing.WeighedBus.{WeighedBus}
use Rattle.arch_settle.specs.declared.weighing.BusModules.TheVariants.{Both}
use Rattle.arch_settle.specs.Neighbours.{joined_at, merged}
use Rattle.arch_settle.specs.Loads.{AreLoads, loads_value}
use Rattle.arch_settle.proofs.Joins.{sound_joined, wires-joined}
use Rattle.arch_settle.proofs.LoadLemmas.{joined_loads_value, joined_are_loads}
use Rattle.arch_settle.proofs.weighing.merged_cost.Goals as goal

width_at : (buses : List ArchBus) (i : ℕ) (bus : ArchBus) → i < length (map bus_value buses) → bus ≡ get_or buses i bus → (bus_at (map bus_value buses) i).width ≡ bus.width
width_at buses i bus h e = let n = value_length buses in ap (λ b. b.width) (value_at buses i bus no_bus (omega arith) e)

pub held_time-time-requires-clause-some : goal.held_time-time-requires-clause-some
held_time-time-requires-clause-some c =
    let own = width_at c.args.arch.now.buses.items c.args.into c.index.result.now c.requires.into c.index.ensures in
    let some = c.requires.sound.wide c.args.into no_bus c.requires.into in
    let e = c.max-width.ensures in
    omega arith

pub held_time-time-requires-clause-width : goal.held_time-time-requires-clause-width
held_time-time-requires-clause-width c =
    let own = width_at c.args.arch.now.buses.items c.args.into c.index.result.now c.requires.into c.index.ensures in
    let further = width_at c.args.arch.now.buses.items c.args.from c.index-2.result.now c.requires.from c.index-2.ensures in
    let a = (sound_bus c.args.table.now (arch_value c.args.arch.now) c.args.into no_bus c.requires.sound c.requires.into).within in
    let b = (sound_bus c.args.table.now (arch_value c.args.arch.now) c.args.from no_bus c.requires.sound c.requires.from).within in
    let e = c.max-width.ensures in
    omega arith

items_are : (loads cleared filled final : List WeighedBus) (into from : ℕ) (new : WeighedBus) → cleared ≡ [] → filled ≡ cleared ++ loads → final ≡ remove (set filled into new) from → final ≡ remove (set loads into new) from
items_are loads cleared filled final into from new none all last = last ∙ ap (λ xs. remove (set xs into new) from) (all ∙ ap (λ xs. xs ++ loads) none)

pub spread_cost-requires-clause-loads : goal.spread_cost-requires-clause-loads
spread_cost-requires-clause-loads c =
    let A = arch_value c.args.arch.now in
    let new : WeighedBus = record { held = Both; width = c.max-width.result; time = c.held_time-time.result } in
    let own = width_at c.args.arch.now.buses.items c.args.into c.index.result.now c.requires.into c.index.ensures in
    let further = width_at c.args.arch.now.buses.items c.args.from c.index-2.result.now c.requires.from c.index-2.ensures in
    let width : c.max-width.result ≡ max (bus_at A c.args.into).width (bus_at A c.args.from).width = omega (arith, c.max-width.ensures) in
    let items = items_are c.args.loads.now c.clear.new.self.items c.extend.new.to.items c.remove-gone.new.self.items c.args.into c.args.from new
    c.clear.ensures.items c.in_ok-extend.ensures.ok c.remove-gone.ensures.items in
    let value : loads_value A c.args.from c.args.into c.remove-gone.new.self.items ≡ joined_at A c.args.from c.args.into =
    ap (loads_value A c.args.from c.args.into) items ∙ joined_loads_value A c.args.from c.args.into c.args.loads.now new c.requires.value refl width in
    subst (AreLoads c.args.table.now A c.args.from c.args.into) (sym items)
    (joined_are_loads c.args.table.now A c.args.from c.args.into c.args.loads.now new c.requires.loads c.held_time-time.ensures tt)

pub spread_cost-requires-clause-fits : goal.spread_cost-requires-clause-fits
spread_cost-requires-clause-fits c =
    let A = arch_value c.args.arch.now in
    let new : WeighedBus = record { held = Both; width = c.max-width.result; time = c.held_time-time.result } in
    let own = width_at c.args.arch.now.buses.items c.args.into c.index.result.now c.requires.into c.index.ensures in
    let further = width_at c.args.arch.now.buses.items c.args.from c.index-2.result.now c.requires.from c.index-2.ensures in
    let width : c.max-width.result ≡ max (bus_at A c.args.into).width (bus_at A c.args.from).width = omega (arith, c.max-width.ensures) in
    let items = items_are c.args.loads.now c.clear.new.self.items c.extend.new.to.items c.remove-gone.new.self.items c.args.into c.args.from new
    c.clear.ensures.items c.in_ok-extend.ensures.ok c.remove-gone.ensures.items in
    let value : loads_value A c.args.from c.args.into c.remove-gone.new.self.items ≡ joined_at A c.args.from c.args.into =
    ap (loads_value A c.args.from c.args.into) items ∙ joined_loads_value A c.args.from c.args.into c.args.loads.now new c.requires.value refl width in
    subst (IsSoundArch c.args.table.now) (sym value) (sound_joined c.args.table.now A c.args.from c.args.into c.requires.sound c.requires.from c.requires.into c.requires.differ)

pub spread_cost-requires-clause-free : goal.spread_cost-requires-clause-free
spread_cost-requires-clause-free c =
    let A = arch_value c.args.arch.now in
    let new : WeighedBus = record { held = Both; width = c.max-width.result; time = c.held_time-time.result } in
    let own = width_at c.args.arch.now.buses.items c.args.into c.index.result.now c.requires.into c.index.ensures in
    let further = width_at c.args.arch.now.buses.items c.args.from c.index-2.result.now c.requires.from c.index-2.ensures in
    let width : c.max-width.result ≡ max (bus_at A c.args.into).width (bus_at A c.args.from).width = omega (arith, c.max-width.ensures) in
    let items = items_are c.args.loads.now c.clear.new.self.items c.extend.new.to.items c.remove-gone.new.self.items c.args.into c.args.from new
    c.clear.ensures.items c.in_ok-extend.ensures.ok c.remove-gone.ensures.items in
    let value : loads_value A c.args.from c.args.into c.remove-gone.new.self.items ≡ joined_at A c.args.from c.args.into =
    ap (loads_value A c.args.from c.args.into) items ∙ joined_loads_value A c.args.from c.args.into c.args.loads.now new c.requires.value refl width in
    let used = ap wires_used value in
    let w = wires-joined A c.args.from c.args.into c.requires.from c.requires.into c.requires.differ in
    let fits = c.requires.sound.fits in
    let smaller = c.min.ensures in
    omega arith

pub returns : goal.returns
unfolding merged
returns c =
    let A = arch_value c.args.arch.now in
    let new : WeighedBus = record { held = Both; width = c.max-width.result; time = c.held_time-time.result } in
    let own = width_at c.args.arch.now.buses.items c.args.into c.index.result.now c.requires.into c.index.ensures in
    let further = width_at c.args.arch.now.buses.items c.args.from c.index-2.result.now c.requires.from c.index-2.ensures in
    let width : c.max-width.result ≡ max (bus_at A c.args.into).width (bus_at A c.args.from).width = omega (arith, c.max-width.ensures) in
    let items = items_are c.args.loads.now c.clear.new.self.items c.extend.new.to.items c.remove-gone.new.self.items c.args.into c.args.from new
    c.clear.ensures.items c.in_ok-extend.ensures.ok c.remove-gone.ensures.items in
    let value : loads_value A c.args.from c.args.into c.remove-gone.new.self.items ≡ joined_at A c.args.from c.args.into =
    ap (loads_value A c.args.from c.args.into) items ∙ joined_loads_value A c.args.from c.args.into c.args.loads.now new c.requires.value refl width in
    let smaller : c.min.result ≡ min (bus_at A c.args.from).width (bus_at A c.args.into).width = omega (arith, c.min.ensures) in
    c.spread_cost.ensures ∙ ap (cost_of c.args.table.now) (ap (spread_of c.args.table.now c.min.result) value ∙ ap (λ n. spread_of c.args.table.now n (joined_at A c.args.from c.args.into)) smaller)
