use Rattle.std.proofs.Common.{ap}
use Rattle.soc_model.specs.Chips.{ModuleValue, soc_value, module_value}
use Rattle.sample_maker.proofs.Growing.{has_no_later, one_more}
use Rattle.sample_maker.proofs.make_chip.Goals as goal

pub add_module-requires : goal.add_module-requires
add_module-requires c = record { new = has_no_later (soc_value c.loop-done.soc) c.loop-done.done c.args.seed c.in_ok-module.module.number c.loop-done.invariant (ap (λ (m : ModuleValue). m.number) c.in_ok-module.ensures) }

pub loop-done-preserved : goal.loop-done-preserved
loop-done-preserved c = one_more (soc_value c.loop-done.soc) (soc_value c.add_module.new.soc) (module_value c.in_ok-module.module) c.loop-done.done c.args.seed c.loop-done.invariant c.in_ok-module.ensures c.in_ok-add_module.ensures
