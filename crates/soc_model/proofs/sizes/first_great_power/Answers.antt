use Rattle.std.proofs.Common.{◌∙◌, sym, ap, map, nat_lt, List, Some}
use Rattle.std.specs.Prelude.{find}
use Rattle.soc_model.specs.declared.TheConstants.{POWER_MOST}
use Rattle.soc_model.specs.declared.Test.{Test}
use Rattle.soc_model.proofs.Entries.{tests-at_start}
use Rattle.soc_model.proofs.Sums.{power_in, power_here, power_later}
use Rattle.soc_model.proofs.sizes.first_great_power.Goals as goal

pub loop-module-init : goal.loop-module-init
loop-module-init c =
    ap (λ (ts : List Test). find (nat_lt POWER_MOST) (map (λ (t : Test). t.power) ts)) (tests-at_start c.args.soc.now _ (c.into_iter-module-iterator.ensures.into_iter_gives ∙ c.values-module-items.ensures.rest))

pub returns-in-Some-great_power : goal.returns-in-Some-great_power
returns-in-Some-great_power c =
    let here = sym c.in-Some-great_power.is ∙ c.great_power.ensures ∙ ap power_in c.deref.ensures.value in
    ap Some c.from.ensures ∙ power_here _ _ _ _ c.in-Some.ensures.steps here ∙ sym c.loop-module.invariant

pub loop-module-preserved : goal.loop-module-preserved
loop-module-preserved c =
    let none = ap power_in (sym c.deref.ensures.value) ∙ sym c.great_power.ensures ∙ c.in_default.is in
    c.loop-module.invariant ∙ power_later _ _ _ c.in-Some.ensures.steps none
