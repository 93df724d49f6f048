use Rattle.std.proofs.Common.{◌∙◌}
use Rattle.commands.proofs.AllFiles.{after_both, not_both}
use Rattle.commands.proofs.LoadStages.{after_two, stops_both}
use Rattle.bound_commands.specs.Procedures.{with_proof}
use Rattle.bound_commands.proofs.deciding.decide_bound.Goals as goal

pub returns-in-Ok-clause-follows : goal.returns-in-Ok-clause-follows
returns-in-Ok-clause-follows g c =
    let follows = rw c.load_both.ensures.held_stays at c.answer_bound_file-verdict.ensures.follows in
    after_both _ _ (with_proof c.args.proof.now) _ _ (g.H.Shelf.faults c.load_both.new.shelf) _ c.in-Ok.both _ c.load_both.ensures.faults_never_fall c.in-Ok.ensures.loads follows

pub returns-in-Err-clause-follows : goal.returns-in-Err-clause-follows
returns-in-Err-clause-follows g c = not_both _ _ (with_proof c.args.proof.now) _ _ _ _ c.in-Err.ensures.loads

pub returns-in-Ok-clause-held_stays : goal.returns-in-Ok-clause-held_stays
returns-in-Ok-clause-held_stays g c = c.answer_bound_file-verdict.ensures.held_stays ∙ c.load_both.ensures.held_stays

pub returns-in-Ok-clause-by_loads : goal.returns-in-Ok-clause-by_loads
returns-in-Ok-clause-by_loads g c =
    after_two g.H.Shelf.is_load c.args.soc.now c.args.limits.now (with_proof c.args.proof.now) c.in-Ok.both.soc c.in-Ok.both.limits c.args.shelf.now c.load_both.new.shelf c.answer_bound_file-verdict.new.shelf c.answer_bound_file-verdict.result c.in-Ok.ensures.by_loads c.answer_bound_file-verdict.ensures.by_loads

pub returns-in-Err-clause-by_loads : goal.returns-in-Err-clause-by_loads
returns-in-Err-clause-by_loads g c = stops_both g.H.Shelf.is_load c.args.soc.now c.args.limits.now (with_proof c.args.proof.now) c.args.shelf.now c.load_both.new.shelf c.in-Err.verdict c.in-Err.ensures.by_loads
