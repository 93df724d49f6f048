use Rattle.std.proofs.Common.{◌∙◌, ap, map, List, ℕ}
use Rattle.plan_model.specs.Views.{chain_value}
use Rattle.vector_lines.proofs.Layouts.{mapped_more}
use Rattle.vector_lines.proofs.layout.copy_of.Goals as goal
use Rattle.common_lemmas.proofs.Lists.{map_append}

pub loop-chain-preserved : goal.loop-chain-preserved
loop-chain-preserved c =
    mapped_more chain_value c.args.chains.now c.loop-chain.chain-index c.loop-chain-test.true c.chain-item.is c.loop-chain.invariant
    (ap (λ (scans : List ℕ). record { ins = c.chain-item.result.ins; scans = scans; outs = c.chain-item.result.outs }) (c.in_ok-scans.ensures ∙ c.deref.ensures.value)) (ap (map chain_value) c.in_ok-push.ensures.ok
    ∙ map_append chain_value c.loop-chain.copy.items _)
