use Rattle.std.proofs.Common.{Some, sym, ap, ◌∙◌}
use Rattle.soc_model.specs.Chips.{module_value}
use Rattle.bound_rules.proofs.Modules.{module_bound_is}
use Rattle.bound_rules.proofs.lower_times.LowerTimes.of_all.Goals as goal

pub returns-clause-sum : goal.returns-clause-sum
returns-clause-sum c = λ soc place at.
    c.times.ensures.time ∙ rw (c.deref.ensures.value, c.self.invariant.sizes) (sym (module_bound_is soc c.args.width place (module_value c.self.inside.«module».now) (at ∙ ap Some (sym c.self.view_is))))
