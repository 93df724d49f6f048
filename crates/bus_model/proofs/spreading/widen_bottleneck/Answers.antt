use Rattle.std.proofs.Common.{arith, ◌≡◌, ◌<◌, ◌∙◌, sym, ap, subst, length, set}
use Rattle.std.proofs.lemmas.List.{length-set}
use Rattle.bus_model.specs.Buses.{arch_value, no_bus, bottleneck_of, bus_at, wider}
use Rattle.bus_model.specs.Sound.{wires_used, IsSoundArch}
use Rattle.bus_model.proofs.Views.{value_at, value_length, value_wider}
use Rattle.bus_model.proofs.SoundLemmas.{sound_bus, sound_wider, wires_wider}
use Rattle.bus_model.proofs.spreading.widen_bottleneck.Goals as goal

pub overflow_add-index_mut : goal.overflow_add-index_mut
overflow_add-index_mut c =
    let at : (c.in-Some.at < length (arch_value c.args.arch.now)) × (c.in-Some.at ≡ bottleneck_of c.args.table.now (arch_value c.args.arch.now)) = c.in-Some.ensures in
    let n = value_length c.args.arch.now.buses.items in
    let read = value_at c.args.arch.now.buses.items c.in-Some.at c.index_mut.result.now no_bus (omega arith) c.index_mut.ensures.value in
    let bound = (sound_bus c.args.table.now (arch_value c.args.arch.now) c.in-Some.at no_bus c.requires.sound at.0).within in
    let same = ap (λ b. b.width) read in
    let few = c.wires-wires.ensures.table.few_wires in
    omega arith

pub returns-in-Some : goal.returns-in-Some
returns-in-Some c =
    let A = arch_value c.args.arch.now in
    let at : (c.in-Some.at < length (arch_value c.args.arch.now)) × (c.in-Some.at ≡ bottleneck_of c.args.table.now (arch_value c.args.arch.now)) = c.in-Some.ensures in
    let n = value_length c.args.arch.now.buses.items in
    let new = value_wider c.args.arch.now.buses.items c.in-Some.at c.index_mut.result.now (omega arith) c.index_mut.ensures.value in
    record {
      value = new ∙ ap (λ i. set A i (wider (bus_at A i))) at.1;
      sound = subst (IsSoundArch c.args.table.now) (sym new) (sound_wider c.args.table.now A c.in-Some.at c.requires.sound at.0 c.requires.free);
      used = ap wires_used new ∙ wires_wider A c.in-Some.at at.0;
      count = ap (λ xs. length xs) new ∙ length-set A c.in-Some.at (wider (bus_at A c.in-Some.at));
    }
