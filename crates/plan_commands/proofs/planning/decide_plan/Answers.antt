use Rattle.std.proofs.Common.{◌≡◌, None, List, ℕ, refl}
use Rattle.plan_model.specs.Plans.{PlanValue}
use Rattle.plan_text.specs.PlanLines.{plan_text}
use Rattle.planner.specs.Plans.{IsPlanned}
use Rattle.plan_commands.specs.Procedures.{done_with_plan}
use Rattle.commands.proofs.AllFiles.{after_both, not_both}
use Rattle.commands.proofs.FileStages.{gives_text, unless_any}
use Rattle.commands.proofs.LoadStages.{after_two, stops_both, any_loaded}
use Rattle.plan_commands.proofs.planning.decide_plan.Goals as goal

pub returns-in-Ok-clause-follows : goal.returns-in-Ok-clause-follows
returns-in-Ok-clause-follows g c =
    let chip = c.in-Ok.both.soc in
    let bounds = c.in-Ok.both.limits in
    after_both _ _ done_with_plan _ _ (g.H.Shelf.faults c.load_both.new.shelf) _ c.in-Ok.both _ c.load_both.ensures.faults_never_fall c.in-Ok.ensures.loads
    (unless_any None (λ (text : List ℕ). (value : PlanValue) × IsPlanned chip bounds value × (text ≡ plan_text value)) _ (g.H.Shelf.faults c.load_both.new.shelf) (g.H.Shelf.faults c.load_both.new.shelf) _
    (gives_text None (λ (text : List ℕ). (value : PlanValue) × IsPlanned chip bounds value × (text ≡ plan_text value)) c.text_of_plan-text.result c.answered_with.result refl c.text_of_plan-text.ensures c.answered_with.ensures))

pub returns-in-Err-clause-follows : goal.returns-in-Err-clause-follows
returns-in-Err-clause-follows g c = not_both _ _ done_with_plan _ _ _ _ c.in-Err.ensures.loads

pub returns-in-Ok-clause-by_loads : goal.returns-in-Ok-clause-by_loads
returns-in-Ok-clause-by_loads g c =
    let chip = c.in-Ok.both.soc in
    let bounds = c.in-Ok.both.limits in
    after_two g.H.Shelf.is_load c.args.soc.now c.args.limits.now done_with_plan chip bounds c.args.shelf.now c.load_both.new.shelf c.load_both.new.shelf c.answered_with.result c.in-Ok.ensures.by_loads
    (any_loaded g.H.Shelf.is_load None (λ (text : List ℕ). (value : PlanValue) × IsPlanned chip bounds value × (text ≡ plan_text value)) c.answered_with.result c.load_both.new.shelf
    (gives_text None (λ (text : List ℕ). (value : PlanValue) × IsPlanned chip bounds value × (text ≡ plan_text value)) c.text_of_plan-text.result c.answered_with.result refl c.text_of_plan-text.ensures c.answered_with.ensures))

pub returns-in-Err-clause-by_loads : goal.returns-in-Err-clause-by_loads
returns-in-Err-clause-by_loads g c = stops_both g.H.Shelf.is_load c.args.soc.now c.args.limits.now done_with_plan c.args.shelf.now c.load_both.new.shelf c.in-Err.verdict c.in-Err.ensures.by_loads
