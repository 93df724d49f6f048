use Rattle.std.proofs.Common.{◌∙◌}
use Rattle.soc_reader.specs.ChipForm.{SaysChip}
use Rattle.commands.specs.declared.FileKind.TheVariants.{Soc}
use Rattle.commands.specs.Procedures.{with_accepted, with_limits}
use Rattle.commands.specs.Readings.{RefusesChip}
use Rattle.commands.proofs.AllFiles.{not_all}
use Rattle.commands.proofs.LoadStages.{stops_all}
use Rattle.tester_commands.specs.Procedures.{with_data_run}
use Rattle.commands.proofs.Endings.{after_taken, after_all_loads, closes_read}
use Rattle.tester_commands.specs.Endings.{ending_value}
use Rattle.tester_commands.proofs.data_runs.decide_run.Goals as goal

pub returns-in-Ok-clause-held_stays : goal.returns-in-Ok-clause-held_stays
returns-in-Ok-clause-held_stays g c = c.decide_with_data.ensures.held_stays ∙ c.load_all.ensures.held_stays

pub returns-in-Ok-clause-closes : goal.returns-in-Ok-clause-closes
returns-in-Ok-clause-closes g c =
    let continues = rw c.load_all.ensures.held_stays at c.decide_with_data.ensures.continues in
    closes_read Soc SaysChip RefusesChip c.args.soc.now (λ chip. with_limits chip c.args.limits.now (λ bounds. with_accepted chip bounds c.args.plan.now (with_data_run c.args.form c.args.name.now chip bounds))) (g.H.Shelf.held c.args.shelf.now) (g.H.Shelf.faults c.args.shelf.now) (g.H.Shelf.faults c.decide_with_data.new.shelf) (ending_value c.decide_with_data.result)
    (after_taken c.args.soc.now c.args.limits.now c.args.plan.now (with_data_run c.args.form c.args.name.now) (g.H.Shelf.held c.args.shelf.now) (g.H.Shelf.faults c.args.shelf.now) (g.H.Shelf.faults c.load_all.new.shelf) (g.H.Shelf.faults c.decide_with_data.new.shelf) c.in-Ok.all (ending_value c.decide_with_data.result) c.load_all.ensures.faults_never_fall c.in-Ok.ensures.loads continues)

pub returns-in-Err-clause-closes : goal.returns-in-Err-clause-closes
returns-in-Err-clause-closes g c = not_all c.args.soc.now c.args.limits.now c.args.plan.now (with_data_run c.args.form c.args.name.now) (g.H.Shelf.held c.args.shelf.now) (g.H.Shelf.faults c.args.shelf.now) (g.H.Shelf.faults c.load_all.new.shelf) c.in-Err.verdict c.in-Err.ensures.loads

pub returns-in-Ok-clause-by_loads : goal.returns-in-Ok-clause-by_loads
returns-in-Ok-clause-by_loads g c =
    after_all_loads g.H.Shelf.is_load c.args.soc.now c.args.limits.now c.args.plan.now (with_data_run c.args.form c.args.name.now) c.in-Ok.all.soc c.in-Ok.all.limits c.in-Ok.all.plan c.args.shelf.now c.load_all.new.shelf c.decide_with_data.new.shelf (ending_value c.decide_with_data.result) c.in-Ok.ensures.by_loads c.decide_with_data.ensures.by_loads

pub returns-in-Err-clause-by_loads : goal.returns-in-Err-clause-by_loads
returns-in-Err-clause-by_loads g c = stops_all g.H.Shelf.is_load c.args.soc.now c.args.limits.now c.args.plan.now (with_data_run c.args.form c.args.name.now) c.args.shelf.now c.load_all.new.shelf c.in-Err.verdict c.in-Err.ensures.by_loads
