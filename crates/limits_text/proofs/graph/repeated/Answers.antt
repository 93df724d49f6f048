use Rattle.std.proofs.Common.{◌++◌, ◌∷◌, [], ◌∙◌, ap}
use Rattle.std.proofs.lemmas.List.{replicate_more}
use Rattle.limits_text.proofs.graph.repeated.Goals as goal

pub loop-preserved : goal.loop-preserved
loop-preserved c = c.in_ok-push.ensures.ok ∙ ap (λ l. l ++ c.args.number ∷ []) c.loop.invariant ∙ replicate_more c.loop.counter c.args.number
