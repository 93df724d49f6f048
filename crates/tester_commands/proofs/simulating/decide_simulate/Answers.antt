use Rattle.std.proofs.Common.{◌≡◌, ℕ, List}
use Rattle.commands.specs.Procedures.{Unless, done_with}
use Rattle.commands.proofs.FileStages.{unless_any}
use Rattle.commands.proofs.AllFiles.{not_all, after_all}
use Rattle.commands.proofs.LoadStages.{after_three, stops_all, any_loaded}
use Rattle.commands.specs.Texts.{run_refusal}
use Rattle.tester_commands.specs.RunCounts.{simulated_text}
use Rattle.tester_commands.proofs.simulating.decide_simulate.Goals as goal
use Rattle.tester_vectors.specs.VectorText.{too_many}

pub returns-in-Ok-clause-follows : goal.returns-in-Ok-clause-follows
returns-in-Ok-clause-follows g c =
    after_all _ _ _ (λ chip bounds value. Unless (run_refusal (too_many value)) (done_with (simulated_text chip value c.args.seed))) _ _ (g.H.Shelf.faults c.load_all.new.shelf) _ c.in-Ok.all _ c.load_all.ensures.faults_never_fall c.in-Ok.ensures.loads
    (unless_any (run_refusal (too_many c.in-Ok.all.plan)) (λ (text : List ℕ). text ≡ simulated_text c.in-Ok.all.soc c.in-Ok.all.plan c.args.seed) _ (g.H.Shelf.faults c.load_all.new.shelf) (g.H.Shelf.faults c.load_all.new.shelf) c.simulated-verdict.result c.simulated-verdict.ensures)

pub returns-in-Err-clause-follows : goal.returns-in-Err-clause-follows
returns-in-Err-clause-follows g c = not_all _ _ _ (λ chip bounds value. Unless (run_refusal (too_many value)) (done_with (simulated_text chip value c.args.seed))) _ _ _ _ c.in-Err.ensures.loads

pub returns-in-Ok-clause-by_loads : goal.returns-in-Ok-clause-by_loads
returns-in-Ok-clause-by_loads g c =
    after_three g.H.Shelf.is_load c.args.soc.now c.args.limits.now c.args.plan.now (λ chip bounds value. Unless (run_refusal (too_many value)) (done_with (simulated_text chip value c.args.seed))) c.in-Ok.all.soc c.in-Ok.all.limits c.in-Ok.all.plan c.args.shelf.now c.load_all.new.shelf c.load_all.new.shelf c.simulated-verdict.result c.in-Ok.ensures.by_loads
    (any_loaded g.H.Shelf.is_load (run_refusal (too_many c.in-Ok.all.plan)) (λ (text : List ℕ). text ≡ simulated_text c.in-Ok.all.soc c.in-Ok.all.plan c.args.seed) c.simulated-verdict.result c.load_all.new.shelf c.simulated-verdict.ensures)

pub returns-in-Err-clause-by_loads : goal.returns-in-Err-clause-by_loads
returns-in-Err-clause-by_loads g c = stops_all g.H.Shelf.is_load c.args.soc.now c.args.limits.now c.args.plan.now (λ chip bounds value. Unless (run_refusal (too_many value)) (done_with (simulated_text chip value c.args.seed))) c.args.shelf.now c.load_all.new.shelf c.in-Err.verdict c.in-Err.ensures.by_loads
