use Rattle.plan_commands.specs.Texts.{accepted_line}
use Rattle.commands.specs.Procedures.{done_with}
use Rattle.commands.proofs.FileStages.{done_of}
use Rattle.commands.proofs.AllFiles.{not_all, after_all}
use Rattle.commands.proofs.LoadStages.{after_three, stops_all, done_loaded}
use Rattle.plan_commands.proofs.accepted_plans.decide_check.Goals as goal

pub returns-in-Ok-clause-follows : goal.returns-in-Ok-clause-follows
returns-in-Ok-clause-follows g c =
    after_all _ _ _ (λ chip bounds value. done_with (accepted_line value)) _ _ (g.H.Shelf.faults c.load_all.new.shelf) _ c.in-Ok.all _ c.load_all.ensures.faults_never_fall c.in-Ok.ensures.loads
    (done_of (accepted_line c.in-Ok.all.plan) _ _ (g.H.Shelf.faults c.load_all.new.shelf) (g.H.Shelf.faults c.load_all.new.shelf) _ c.accepted_line_of-line.ensures c.answered_with.ensures)

pub returns-in-Err-clause-follows : goal.returns-in-Err-clause-follows
returns-in-Err-clause-follows g c = not_all _ _ _ (λ chip bounds value. done_with (accepted_line value)) _ _ _ _ c.in-Err.ensures.loads

pub returns-in-Ok-clause-by_loads : goal.returns-in-Ok-clause-by_loads
returns-in-Ok-clause-by_loads g c =
    after_three g.H.Shelf.is_load c.args.soc.now c.args.limits.now c.args.plan.now (λ chip bounds value. done_with (accepted_line value)) c.in-Ok.all.soc c.in-Ok.all.limits c.in-Ok.all.plan c.args.shelf.now c.load_all.new.shelf c.load_all.new.shelf c.answered_with.result c.in-Ok.ensures.by_loads
    (done_loaded g.H.Shelf.is_load (accepted_line c.in-Ok.all.plan) c.accepted_line_of-line.result c.answered_with.result c.load_all.new.shelf c.accepted_line_of-line.ensures c.answered_with.ensures)

pub returns-in-Err-clause-by_loads : goal.returns-in-Err-clause-by_loads
returns-in-Err-clause-by_loads g c = stops_all g.H.Shelf.is_load c.args.soc.now c.args.limits.now c.args.plan.now (λ chip bounds value. done_with (accepted_line value)) c.args.shelf.now c.load_all.new.shelf c.in-Err.verdict c.in-Err.ensures.by_loads
