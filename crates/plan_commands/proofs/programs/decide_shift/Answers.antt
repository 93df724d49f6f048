use Rattle.std.proofs.Common.{◌∙◌}
use Rattle.commands.proofs.AllFiles.{not_all, after_all}
use Rattle.commands.proofs.LoadStages.{after_three, stops_all}
use Rattle.plan_commands.proofs.ProgramAnswers.{program_after_plan}
use Rattle.plan_commands.proofs.programs.decide_shift.Goals as goal

pub returns-in-Ok-clause-follows : goal.returns-in-Ok-clause-follows
returns-in-Ok-clause-follows g c =
    let follows = rw c.load_all.ensures.held_stays at c.answer_program_file-verdict.ensures.follows in
    after_all _ _ _ (program_after_plan c.args.program.now) _ _ (g.H.Shelf.faults c.load_all.new.shelf) _ c.in-Ok.all _ c.load_all.ensures.faults_never_fall c.in-Ok.ensures.loads follows

pub returns-in-Err-clause-follows : goal.returns-in-Err-clause-follows
returns-in-Err-clause-follows g c = not_all _ _ _ (program_after_plan c.args.program.now) _ _ _ _ c.in-Err.ensures.loads

pub returns-in-Ok-clause-held_stays : goal.returns-in-Ok-clause-held_stays
returns-in-Ok-clause-held_stays g c = c.answer_program_file-verdict.ensures.held_stays ∙ c.load_all.ensures.held_stays

pub returns-in-Ok-clause-by_loads : goal.returns-in-Ok-clause-by_loads
returns-in-Ok-clause-by_loads g c =
    after_three g.H.Shelf.is_load c.args.soc.now c.args.limits.now c.args.plan.now (program_after_plan c.args.program.now) c.in-Ok.all.soc c.in-Ok.all.limits c.in-Ok.all.plan c.args.shelf.now c.load_all.new.shelf c.answer_program_file-verdict.new.shelf c.answer_program_file-verdict.result c.in-Ok.ensures.by_loads c.answer_program_file-verdict.ensures.by_loads

pub returns-in-Err-clause-by_loads : goal.returns-in-Err-clause-by_loads
returns-in-Err-clause-by_loads g c = stops_all g.H.Shelf.is_load c.args.soc.now c.args.limits.now c.args.plan.now (program_after_plan c.args.program.now) c.args.shelf.now c.load_all.new.shelf c.in-Err.verdict c.in-Err.ensures.by_loads
