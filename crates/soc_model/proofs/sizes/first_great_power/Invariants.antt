use Rattle.std.proofs.Common.{◌≡◌, map, nat_lt}
use Rattle.std.specs.Prelude.{find}
use Rattle.std.specs.List.{flat_map}
use Rattle.soc_model.specs.declared.Module.{Module}
use Rattle.soc_model.specs.declared.Test.{Test}
use Rattle.soc_model.specs.declared.Which.TheVariants.{Power}
use Rattle.soc_model.specs.declared.TheConstants.{POWER_MOST}
use Rattle.soc_model.specs.Chips.{soc_value}
use Rattle.soc_model.specs.Sizes.{passed}
use Rattle.soc_model.proofs.sizes.first_great_power.Given as goal

abbrev pub invariant-loop-module : goal.invariant-loop-module
invariant-loop-module l =
    passed (soc_value l.soc) Power ≡ find (nat_lt POWER_MOST) (map (λ (t : Test). t.power) (flat_map (λ (m : Module). m.tests.items) l.module-iterator))
