use Rattle.std.proofs.Common.{◌++◌, ◌∷◌, [], ◌∙◌, false, ap}
use Rattle.std.proofs.lemmas.List.{replicate_more}
use Rattle.limits_text.proofs.graph.unmarked.Goals as goal

pub loop-preserved : goal.loop-preserved
loop-preserved c = c.in_ok-push.ensures.ok ∙ ap (λ l. l ++ false ∷ []) c.loop.invariant ∙ replicate_more c.loop.counter false
