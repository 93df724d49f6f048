use Rattle.soc_model.specs.Chips.{module_value}
use Rattle.bound_rules.proofs.Modules.{fitting_sizes}
use Rattle.bound_rules.proofs.sizes.Sizes.of.Goals as goal

pub returns-clause-fitting : goal.returns-clause-fitting
returns-clause-fitting c = rw (c.greatest_of.ensures, c.deref.ensures.value, c.sum_of.ensures, c.deref-2.ensures.value) (fitting_sizes (module_value c.args.module.now) c.requires)
