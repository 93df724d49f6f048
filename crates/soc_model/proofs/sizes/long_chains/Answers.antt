use Rattle.std.proofs.Common.{◌∙◌, ap, nat_lt}
use Rattle.std.specs.Prelude.{find}
use Rattle.soc_model.specs.declared.TheConstants.{CHAINS_MOST}
use Rattle.soc_model.proofs.Entries.{chains-at_start}
use Rattle.soc_model.proofs.sizes.long_chains.Goals as goal

pub loop-module-init : goal.loop-module-init
loop-module-init c =
    ap (find (nat_lt CHAINS_MOST)) (chains-at_start c.args.soc.now _ (c.into_iter-module-iterator.ensures.into_iter_gives ∙ c.values-module-items.ensures.rest))
