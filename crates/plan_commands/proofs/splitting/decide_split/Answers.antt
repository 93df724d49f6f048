use Rattle.std.proofs.Common.{List, ℕ, ◌≡◌}
use Rattle.plan_model.specs.Plans.{PlanValue}
use Rattle.planner.specs.Plans.{IsPlanned}
use Rattle.split_plan.specs.Parts.{split_chip, split_limits, split_of}
use Rattle.commands.specs.Procedures.{Unless}
use Rattle.plan_commands.specs.Procedures.{done_with_split}
use Rattle.plan_commands.specs.SplitText.{split_refusal, split_text}
use Rattle.commands.proofs.AllFiles.{not_both, after_both}
use Rattle.commands.proofs.FileStages.{unless_any}
use Rattle.commands.proofs.LoadStages.{after_two, stops_both, any_loaded}
use Rattle.plan_commands.proofs.splitting.decide_split.Goals as goal

pub returns-in-Ok-clause-follows : goal.returns-in-Ok-clause-follows
returns-in-Ok-clause-follows g c =
    let chip = c.in-Ok.both.soc in
    let bounds = c.in-Ok.both.limits in
    after_both _ _ (λ chip bounds. Unless (split_refusal chip bounds c.args.most) (done_with_split chip bounds c.args.most)) _ _ (g.H.Shelf.faults c.load_both.new.shelf) _ c.in-Ok.both _ c.load_both.ensures.faults_never_fall c.in-Ok.ensures.loads
    (unless_any (split_refusal chip bounds c.args.most) (λ (text : List ℕ). (value : PlanValue) × IsPlanned (split_chip bounds c.args.most chip) (split_limits bounds c.args.most chip) value × (text ≡ split_text (split_of chip bounds c.args.most) value)) _ (g.H.Shelf.faults c.load_both.new.shelf) (g.H.Shelf.faults c.load_both.new.shelf) _ c.answer_both-verdict.ensures)

pub returns-in-Err-clause-follows : goal.returns-in-Err-clause-follows
returns-in-Err-clause-follows g c = not_both _ _ (λ chip bounds. Unless (split_refusal chip bounds c.args.most) (done_with_split chip bounds c.args.most)) _ _ _ _ c.in-Err.ensures.loads

pub returns-in-Ok-clause-by_loads : goal.returns-in-Ok-clause-by_loads
returns-in-Ok-clause-by_loads g c =
    let chip = c.in-Ok.both.soc in
    let bounds = c.in-Ok.both.limits in
    after_two g.H.Shelf.is_load c.args.soc.now c.args.limits.now (λ chip bounds. Unless (split_refusal chip bounds c.args.most) (done_with_split chip bounds c.args.most)) chip bounds c.args.shelf.now c.load_both.new.shelf c.load_both.new.shelf c.answer_both-verdict.result c.in-Ok.ensures.by_loads
    (any_loaded g.H.Shelf.is_load (split_refusal chip bounds c.args.most) (λ (text : List ℕ). (value : PlanValue) × IsPlanned (split_chip bounds c.args.most chip) (split_limits bounds c.args.most chip) value × (text ≡ split_text (split_of chip bounds c.args.most) value)) c.answer_both-verdict.result c.load_both.new.shelf c.answer_both-verdict.ensures)

pub returns-in-Err-clause-by_loads : goal.returns-in-Err-clause-by_loads
returns-in-Err-clause-by_loads g c =
    stops_both g.H.Shelf.is_load c.args.soc.now c.args.limits.now (λ chip bounds. Unless (split_refusal chip bounds c.args.most) (done_with_split chip bounds c.args.most)) c.args.shelf.now c.load_both.new.shelf c.in-Err.verdict c.in-Err.ensures.by_loads
