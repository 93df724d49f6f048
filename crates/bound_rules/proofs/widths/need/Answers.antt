use Rattle.std.proofs.Common.{◌∙◌, sym}
use Rattle.soc_model.specs.Chips.{soc_value, module_value}
use Rattle.plan_model.proofs.SoundChips.{module_size-le}
use Rattle.bound_rules.proofs.SoundWork.{module_work-le}
use Rattle.plan_model.specs.Bounds.{lower_tam_time}
use Rattle.bound_rules.specs.Sizes.{sizes_of, tam_times_by}
use Rattle.bound_rules.proofs.Modules.{tam_times_are}
use Rattle.plan_model.proofs.FirstAndLeast.{first_below-same, first_below-le_next, first_below-some}
use Rattle.bound_rules.proofs.widths.need.Goals as goal

pub of-requires : goal.of-requires
of-requires c = module_size-le (soc_value c.args.soc.now) c.requires.sound c.args.place (module_value c.module_at-module.result.now) c.module_at-module.ensures

pub least_width-requires-clause-work : goal.least_width-requires-clause-work
least_width-requires-clause-work c =
    rw (c.deref.ensures.value, c.of.ensures.sizes) (module_work-le (soc_value c.args.soc.now) c.requires.sound c.args.place (module_value c.module_at-module.result.now) c.module_at-module.ensures)

pub returns-clause-need : goal.returns-clause-need
returns-clause-need c =
    c.least_width.ensures ∙ rw (c.deref.ensures.value, c.of.ensures.sizes)
    (first_below-same (λ w. tam_times_by (sizes_of (module_value c.module_at-module.result.now)) w c.module_at-module.result.now.tests.items) (lower_tam_time (soc_value c.args.soc.now) c.args.place) c.args.claimed c.args.wires
    (λ v. sym (tam_times_are (soc_value c.args.soc.now) v c.args.place (module_value c.module_at-module.result.now) c.module_at-module.ensures)))

pub returns-clause-some : goal.returns-clause-some
returns-clause-some c = rw (returns-clause-need c) (first_below-some (lower_tam_time (soc_value c.args.soc.now) c.args.place) c.args.claimed c.args.wires)

pub returns-clause-few : goal.returns-clause-few
returns-clause-few c = rw (returns-clause-need c) (first_below-le_next (lower_tam_time (soc_value c.args.soc.now) c.args.place) c.args.claimed c.args.wires)
