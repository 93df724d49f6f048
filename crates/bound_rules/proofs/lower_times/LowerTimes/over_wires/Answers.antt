use Rattle.std.proofs.Common.{Some, sym, ap, ◌∙◌}
use Rattle.soc_model.specs.Chips.{module_value}
use Rattle.bound_rules.proofs.Modules.{tam_times_are}
use Rattle.bound_rules.proofs.lower_times.LowerTimes.over_wires.Goals as goal

pub returns-clause-sum : goal.returns-clause-sum
returns-clause-sum c = λ soc place at.
    c.tam_times.ensures.time ∙ rw (c.deref.ensures.value, c.self.invariant.sizes) (sym (tam_times_are soc c.args.width place (module_value c.self.inside.«module».now) (at ∙ ap Some (sym c.self.view_is))))
