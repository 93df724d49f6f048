use Rattle.std.proofs.Common.{refl}
use Rattle.vector_lines.specs.Made.{made_content}
use Rattle.tester_vectors.specs.VectorText.{vector_text, too_many}
use Rattle.commands.specs.Procedures.{Unless, done_with}
use Rattle.commands.proofs.AllFiles.{not_all}
use Rattle.commands.proofs.UnlessRefused.{may_unless}
use Rattle.commands.specs.Texts.{run_refusal}
use Rattle.commands.proofs.LoadStages.{stops_all, unless_loaded}
use Rattle.tester_commands.proofs.vectors.decide_vectors.Goals as goal

pub returns-in-Ok-clause-closes : goal.returns-in-Ok-clause-closes
returns-in-Ok-clause-closes g c = (
  tt,
  may_unless c.args.soc.now c.args.limits.now c.args.plan.now (λ chip bounds value. Unless (run_refusal (too_many value)) (done_with (vector_text chip value (made_content chip c.args.seed)))) _ c.in-Ok.all (run_refusal (too_many c.in-Ok.all.plan))
      (vector_text c.in-Ok.all.soc c.in-Ok.all.plan (made_content c.in-Ok.all.soc c.args.seed)) c.in-Ok.ensures.loads refl,
)

pub returns-in-Err-clause-closes : goal.returns-in-Err-clause-closes
returns-in-Err-clause-closes g c = not_all _ _ _ (λ chip bounds value. Unless (run_refusal (too_many value)) (done_with (vector_text chip value (made_content chip c.args.seed)))) _ _ _ _ c.in-Err.ensures.loads

pub returns-in-Ok-clause-by_loads : goal.returns-in-Ok-clause-by_loads
returns-in-Ok-clause-by_loads g c =
    unless_loaded g.H.Shelf.is_load c.args.soc.now c.args.limits.now c.args.plan.now (λ chip bounds value. Unless (run_refusal (too_many value)) (done_with (vector_text chip value (made_content chip c.args.seed)))) c.in-Ok.all.soc c.in-Ok.all.limits c.in-Ok.all.plan c.args.shelf.now c.load_all.new.shelf (run_refusal (too_many c.in-Ok.all.plan))
    (vector_text c.in-Ok.all.soc c.in-Ok.all.plan (made_content c.in-Ok.all.soc c.args.seed)) c.in-Ok.ensures.by_loads refl

pub returns-in-Err-clause-by_loads : goal.returns-in-Err-clause-by_loads
returns-in-Err-clause-by_loads g c = stops_all g.H.Shelf.is_load c.args.soc.now c.args.limits.now c.args.plan.now (λ chip bounds value. Unless (run_refusal (too_many value)) (done_with (vector_text chip value (made_content chip c.args.seed)))) c.args.shelf.now c.load_all.new.shelf c.in-Err.verdict c.in-Err.ensures.by_loads
