use Rattle.std.proofs.Common.{◌≤◌, sym, ap, ◌∙◌, refl, arith, slice_get}
use Rattle.soc_model.specs.Chips.{ModuleValue, SocValue, soc_value, module_value}
use Rattle.plan_model.specs.Views.{wrapper_value}
use Rattle.width_table.specs.Times.{least_time}
use Rattle.width_table.specs.Tables.{TableValue}
use Rattle.packed_wrappers.specs.Times.{IsShortWrapper}
use Rattle.packed_wrappers.proofs.ModeTimes.{designed_is_short, short_is_proper, short_time, shorter, chip_short}
use Rattle.packed_wrappers.proofs.PackedWrappers.wrapper.Goals as goal

pub cycles_in-most-requires-clause-proper : goal.cycles_in-most-requires-clause-proper
cycles_in-most-requires-clause-proper c =
    let m : ModuleValue = module_value c.module_at-module.result.now in
    let at = ap (λ (v : SocValue). slice_get v.modules c.args.place) c.self.invariant.chip ∙ c.module_at-module.ensures in
    let e = c.in_ok-designed.ensures in
    short_is_proper m c.args.scan c.args.width (least_time m c.args.scan c.args.width) (wrapper_value c.in_ok-designed.designed)
    (designed_is_short c.self.inside.table.now.soc.modules c.args.place c.args.scan c.args.width m (wrapper_value c.in_ok-designed.designed) at c.requires.some e.designed e.proper e.some_chain e.few_chains e.attained)

pub cycles_in-most-requires-clause-work : goal.cycles_in-most-requires-clause-work
cycles_in-most-requires-clause-work c = chip_short (soc_value c.self.inside.soc.now) c.args.place (module_value c.module_at-module.result.now) c.self.invariant.sound c.module_at-module.ensures

pub is_short-requires : goal.is_short-requires
is_short-requires c = chip_short (soc_value c.self.inside.soc.now) c.args.place (module_value c.module_at-module.result.now) c.self.invariant.sound c.module_at-module.ensures

pub returns-then-is_short : goal.returns-then-is_short
returns-then-is_short c =
    let m : ModuleValue = module_value c.module_at-module.result.now in
    let at = ap (λ (v : SocValue). slice_get v.modules c.args.place) c.self.invariant.chip ∙ c.module_at-module.ensures in
    let here = ap (λ (v : TableValue). slice_get v.soc.modules c.args.place) (sym c.self.view_is) ∙ c.module_at-module.ensures in
    let e = c.in_ok-designed.ensures in
    let known : IsShortWrapper m c.args.scan c.args.width (least_time m c.args.scan c.args.width) (wrapper_value c.in_ok-designed.designed) =
    designed_is_short c.self.inside.table.now.soc.modules c.args.place c.args.scan c.args.width m (wrapper_value c.in_ok-designed.designed) at c.requires.some e.designed e.proper e.some_chain e.few_chains e.attained in
    let less : c.cycles_in-most.result ≤ least_time m c.args.scan c.args.width =
    omega (arith, c.cycles_in-most.ensures, short_time m c.args.scan c.args.width (least_time m c.args.scan c.args.width) (wrapper_value c.in_ok-designed.designed) known) in
    record {
      short = rw here (shorter m c.args.scan c.args.width c.cycles_in-most.result (least_time m c.args.scan c.args.width) (wrapper_value c.in_ok-packed.packed) less (c.if-is_short.ensures refl));
    }

pub returns : goal.returns
returns c =
    let m : ModuleValue = module_value c.module_at-module.result.now in
    let at = ap (λ (v : SocValue). slice_get v.modules c.args.place) c.self.invariant.chip ∙ c.module_at-module.ensures in
    let here = ap (λ (v : TableValue). slice_get v.soc.modules c.args.place) (sym c.self.view_is) ∙ c.module_at-module.ensures in
    let e = c.in_ok-designed.ensures in
    record {
      short = rw here (designed_is_short c.self.inside.table.now.soc.modules c.args.place c.args.scan c.args.width m (wrapper_value c.in_ok-designed.designed) at c.requires.some e.designed e.proper e.some_chain e.few_chains e.attained);
    }
