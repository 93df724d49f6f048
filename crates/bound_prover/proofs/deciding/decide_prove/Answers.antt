use Rattle.std.proofs.Common.{◌≡◌, ℕ, List, None, refl}
use Rattle.std.proofs.lemmas.Result.{IfOk-weaker}
use Rattle.commands.specs.declared.Status.TheVariants.{Done}
use Rattle.commands.specs.Procedures.{done_with_any}
use Rattle.commands.proofs.FileStages.{may_be_done, gives_text}
use Rattle.commands.proofs.AllFiles.{not_all, after_all}
use Rattle.commands.proofs.LoadStages.{after_three, stops_all, any_loaded}
use Rattle.bound_prover.proofs.Kept.{Proves}
use Rattle.bound_prover.proofs.deciding.decide_prove.Goals as goal

pub returns-in-Ok-clause-follows : goal.returns-in-Ok-clause-follows
returns-in-Ok-clause-follows g c =
    after_all _ _ _ (λ chip bounds given. done_with_any (Proves c.args.nodes chip bounds given)) _ _ (g.H.Shelf.faults c.load_all.new.shelf) _ c.in-Ok.all _ c.load_all.ensures.faults_never_fall c.in-Ok.ensures.loads
    (may_be_done (λ status text. (status ≡ Done) × Proves c.args.nodes c.in-Ok.all.soc c.in-Ok.all.limits c.in-Ok.all.plan text) c.proof_text_for-text.result _ (g.H.Shelf.faults c.load_all.new.shelf) (g.H.Shelf.faults c.load_all.new.shelf) c.answered_with.result
    (IfOk-weaker c.proof_text_for-text.result (λ text. Proves c.args.nodes c.in-Ok.all.soc c.in-Ok.all.limits c.in-Ok.all.plan text.items) (λ text. (Done ≡ Done) × Proves c.args.nodes c.in-Ok.all.soc c.in-Ok.all.limits c.in-Ok.all.plan text.items) (λ text is. (refl, is)) c.proof_text_for-text.ensures.text) c.answered_with.ensures)

pub returns-in-Err-clause-follows : goal.returns-in-Err-clause-follows
returns-in-Err-clause-follows g c = not_all _ _ _ (λ chip bounds given. done_with_any (Proves c.args.nodes chip bounds given)) _ _ _ _ c.in-Err.ensures.loads

pub returns-in-Ok-clause-by_loads : goal.returns-in-Ok-clause-by_loads
returns-in-Ok-clause-by_loads g c =
    after_three g.H.Shelf.is_load c.args.soc.now c.args.limits.now c.args.plan.now (λ chip bounds given. done_with_any (Proves c.args.nodes chip bounds given)) c.in-Ok.all.soc c.in-Ok.all.limits c.in-Ok.all.plan c.args.shelf.now c.load_all.new.shelf c.load_all.new.shelf c.answered_with.result c.in-Ok.ensures.by_loads
    (any_loaded g.H.Shelf.is_load None (λ (text : List ℕ). Proves c.args.nodes c.in-Ok.all.soc c.in-Ok.all.limits c.in-Ok.all.plan text) c.answered_with.result c.load_all.new.shelf
    (gives_text None (λ (text : List ℕ). Proves c.args.nodes c.in-Ok.all.soc c.in-Ok.all.limits c.in-Ok.all.plan text) c.proof_text_for-text.result c.answered_with.result refl c.proof_text_for-text.ensures.text c.answered_with.ensures))

pub returns-in-Err-clause-by_loads : goal.returns-in-Err-clause-by_loads
returns-in-Err-clause-by_loads g c = stops_all g.H.Shelf.is_load c.args.soc.now c.args.limits.now c.args.plan.now (λ chip bounds given. done_with_any (Proves c.args.nodes chip bounds given)) c.args.shelf.now c.load_all.new.shelf c.in-Err.verdict c.in-Err.ensures.by_loads
