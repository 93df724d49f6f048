use Rattle.std.proofs.Common.{◌∙◌, ◌++◌, List, ap, flat_map}
use Rattle.std.proofs.lemmas.List.{take_all}
use Rattle.split_plan.specs.declared.cuts.Cut.{Cut}
use Rattle.split_plan.specs.Parts.{chain}
use Rattle.common_lemmas.proofs.Lists.{flat_more}
use Rattle.split_plan.proofs.bounds.push_chains.Goals as goal

pub loop-cut-preserved : goal.loop-cut-preserved
loop-cut-preserved c =
    flat_more chain c.args.cuts.now c.loop-cut.cut-index _ c.args.before.now.items c.loop-cut.before.items c.push_chain.new.before.items c.loop-cut-test.true c.loop-cut.invariant c.in_ok-push_chain.ensures

pub returns : goal.returns
returns c =
    c.loop-cut.invariant ∙ ap (λ (cuts : List Cut). c.args.before.now.items ++ flat_map chain cuts) (take_all c.loop-cut.cut-index c.args.cuts.now c.loop-cut-test.false)
