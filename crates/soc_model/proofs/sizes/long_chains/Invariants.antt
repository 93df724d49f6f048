use Rattle.std.proofs.Common.{◌≡◌, length, map, nat_lt}
use Rattle.std.specs.Prelude.{find}
use Rattle.soc_model.specs.declared.Module.{Module}
use Rattle.soc_model.specs.declared.Which.TheVariants.{Chains}
use Rattle.soc_model.specs.declared.TheConstants.{CHAINS_MOST}
use Rattle.soc_model.specs.Chips.{soc_value}
use Rattle.soc_model.specs.Sizes.{passed}
use Rattle.soc_model.proofs.sizes.long_chains.Given as goal

abbrev pub invariant-loop-module : goal.invariant-loop-module
invariant-loop-module l =
    passed (soc_value l.soc) Chains ≡ find (nat_lt CHAINS_MOST) (map (λ (m : Module). length m.chains.items) l.module-iterator)
