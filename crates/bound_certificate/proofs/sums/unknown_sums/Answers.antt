use Rattle.std.proofs.Common.{◌++◌, ◌∷◌, [], ◌∙◌, ap}
use Rattle.std.proofs.lemmas.List.{replicate_more}
use Rattle.bound_certificate.specs.declared.sums.Sum.TheVariants.{Unknown}
use Rattle.bound_certificate.proofs.sums.unknown_sums.Goals as goal

pub loop-preserved : goal.loop-preserved
loop-preserved c = c.in_ok-push.ensures.ok ∙ ap (λ l. l ++ Unknown ∷ []) c.loop.invariant ∙ replicate_more c.loop.counter Unknown
