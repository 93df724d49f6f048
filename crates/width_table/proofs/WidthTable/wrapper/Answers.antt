use Rattle.std.proofs.Common.{◌≡◌, ap, sym, ◌∙◌}
use Rattle.std.specs.Prelude.{slice_get, IfSome}
use Rattle.std.proofs.lemmas.Result.{IfOk-weaker}
use Rattle.soc_model.specs.Chips.{ModuleValue, soc_value, module_value}
use Rattle.plan_model.specs.Plans.{WrapperValue}
use Rattle.plan_model.specs.Views.{wrapper_value}
use Rattle.plan_model.proofs.SoundChips.{module_size-le}
use Rattle.wrapper_design.specs.Design.{mode_of, design}
use Rattle.width_table.specs.Times.{time_in, least_time}
use Rattle.width_table.specs.Tables.{TableValue}
use Rattle.width_table.proofs.LeastWidths.{wrapper_attains}
use Rattle.width_table.proofs.WidthTable.wrapper.Goals as goal

pub design-requires-clause-small : goal.design-requires-clause-small
design-requires-clause-small c = module_size-le (soc_value c.self.inside.soc.now) c.self.invariant.sound c.args.place (module_value c.module_at.result.now) c.module_at.ensures

pub returns-clause-attained : goal.returns-clause-attained
returns-clause-attained c =
    let m : ModuleValue = module_value c.module_at.result.now in
    let at = ap (λ (v : TableValue). slice_get v.soc.modules c.args.place) (sym c.self.view_is) ∙ c.module_at.ensures in
    IfOk-weaker c.design.result (λ w. wrapper_value w ≡ record { «module» = c.module_at.result.now.number; scan = c.args.scan; chains = design (mode_of m c.args.scan) c.chosen-chosen.result })
    (λ w. IfSome (slice_get c.args.self.now.soc.modules c.args.place) (λ m. time_in m c.args.scan (wrapper_value w).chains ≡ least_time m c.args.scan c.args.width))
    (λ w is. wrapper_attains c.args.self.now.soc.modules c.args.place c.args.scan c.args.width c.chosen-chosen.result m (wrapper_value w).chains at c.chosen-chosen.ensures.chosen (ap (λ (v : WrapperValue). v.chains) is)) c.design.ensures.designed
