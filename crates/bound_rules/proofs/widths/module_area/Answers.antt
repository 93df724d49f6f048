use Rattle.std.proofs.Common.{◌*◌, ◌∙◌, sym, ap}
use Rattle.soc_model.specs.Chips.{soc_value, module_value}
use Rattle.plan_model.proofs.SoundChips.{module_size-le}
use Rattle.bound_rules.proofs.SoundWork.{module_work-le}
use Rattle.plan_model.specs.Bounds.{lower_tam_time}
use Rattle.bound_rules.specs.Sizes.{sizes_of, tam_times_by}
use Rattle.bound_rules.proofs.Modules.{tam_times_are}
use Rattle.plan_model.proofs.FirstAndLeast.{least-same}
use Rattle.bound_rules.proofs.widths.module_area.Goals as goal

pub of-requires : goal.of-requires
of-requires c = module_size-le (soc_value c.args.soc.now) c.requires.sound c.args.place (module_value c.module_at-module.result.now) c.module_at-module.ensures

pub least_area-requires-clause-work : goal.least_area-requires-clause-work
least_area-requires-clause-work c =
    rw (c.deref.ensures.value, c.of.ensures.sizes) (module_work-le (soc_value c.args.soc.now) c.requires.sound c.args.place (module_value c.module_at-module.result.now) c.module_at-module.ensures)

pub returns : goal.returns
returns c = λ wires some.
    c.least_area.ensures wires some ∙ rw (c.deref.ensures.value, c.of.ensures.sizes)
    (least-same (λ w. w * tam_times_by (sizes_of (module_value c.module_at-module.result.now)) w c.module_at-module.result.now.tests.items) (λ w. w * lower_tam_time (soc_value c.args.soc.now) c.args.place w) wires
    (λ v. ap (λ n. v * n) (sym (tam_times_are (soc_value c.args.soc.now) v c.args.place (module_value c.module_at-module.result.now) c.module_at-module.ensures))))
