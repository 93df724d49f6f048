use Rattle.commands.specs.declared.FileKind.TheVariants.{Data}
use Rattle.commands.proofs.FileStages.{no_value}
use Rattle.commands.proofs.LoadStages.{stops_here}
use Rattle.tester_commands.specs.DataReadings.{SaysSuiting, RefusesData}
use Rattle.tester_commands.specs.Procedures.{with_run, long_run_refusal}
use Rattle.commands.proofs.Endings.{after_read, after_load, loaded_here}
use Rattle.tester_commands.specs.RunTexts.{run_text}
use Rattle.tester_commands.specs.Endings.{ending_value}
use Rattle.tester_commands.proofs.data_runs.decide_with_data.Goals as goal

pub returns-in-Ok-clause-continues : goal.returns-in-Ok-clause-continues
returns-in-Ok-clause-continues g c =
    after_read Data (SaysSuiting c.args.all.soc) (RefusesData c.args.all.soc) c.args.name.now (with_run c.args.form c.args.all.soc c.args.all.plan) (g.H.Shelf.held c.args.shelf.now) (g.H.Shelf.faults c.args.shelf.now) (g.H.Shelf.faults c.load_suiting.new.shelf) (g.H.Shelf.faults c.load_suiting.new.shelf) c.in-Ok.test_data (ending_value c.run_or_refusal.result)
    c.load_suiting.ensures.faults_never_fall c.in-Ok.ensures.loads (c.run_or_refusal.ensures (g.H.Shelf.held c.args.shelf.now) (g.H.Shelf.faults c.load_suiting.new.shelf) (g.H.Shelf.faults c.load_suiting.new.shelf))

pub returns-in-Err-clause-continues : goal.returns-in-Err-clause-continues
returns-in-Err-clause-continues g c =
    no_value Data (SaysSuiting c.args.all.soc) (RefusesData c.args.all.soc) c.args.name.now (with_run c.args.form c.args.all.soc c.args.all.plan) (g.H.Shelf.held c.args.shelf.now) (g.H.Shelf.faults c.args.shelf.now) (g.H.Shelf.faults c.load_suiting.new.shelf) c.in-Err.verdict c.in-Err.ensures.loads

pub returns-in-Ok-clause-by_loads : goal.returns-in-Ok-clause-by_loads
returns-in-Ok-clause-by_loads g c =
    after_load g.H.Shelf.is_load Data (SaysSuiting c.args.all.soc) (RefusesData c.args.all.soc) c.args.name.now (with_run c.args.form c.args.all.soc c.args.all.plan) c.in-Ok.test_data c.args.shelf.now c.load_suiting.new.shelf c.load_suiting.new.shelf (ending_value c.run_or_refusal.result) c.in-Ok.ensures.by_loads
    (loaded_here g.H.Shelf.is_load (long_run_refusal c.args.all.plan) (run_text c.args.form c.args.all.soc c.args.all.plan c.in-Ok.test_data) (ending_value c.run_or_refusal.result) c.load_suiting.new.shelf c.run_or_refusal.ensures)

pub returns-in-Err-clause-by_loads : goal.returns-in-Err-clause-by_loads
returns-in-Err-clause-by_loads g c =
    stops_here g.H.Shelf.is_load Data (SaysSuiting c.args.all.soc) (RefusesData c.args.all.soc) c.args.name.now (with_run c.args.form c.args.all.soc c.args.all.plan) c.args.shelf.now c.load_suiting.new.shelf c.in-Err.verdict c.in-Err.ensures.by_loads
