use Rattle.std.proofs.Common.{◌∙◌, ◌∷◌, [], ◌++◌, ap}
use Rattle.picture.proofs.StartsCounted.{keys_more}
use Rattle.picture.proofs.fills.start_keys.Goals as goal

pub loop-one-preserved : goal.loop-one-preserved
loop-one-preserved c =
    keys_more c.args.drawn.now c.loop-one.one-index _ c.loop-one.keys.items c.push.new.to.items c.loop-one-test.true c.start_key_of.ensures.small c.loop-one.invariant
    (c.in_ok-push.ensures.ok ∙ ap (λ k. c.loop-one.keys.items ++ k ∷ []) c.start_key_of.ensures.is)
