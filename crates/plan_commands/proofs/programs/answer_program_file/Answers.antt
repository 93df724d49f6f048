use Rattle.plan_commands.specs.ShiftPrograms.{SaysRight, RefusesProgram, accepted_program}
use Rattle.commands.specs.declared.FileKind.TheVariants.{Program}
use Rattle.commands.proofs.LoadStages.{own_loaded, own_stops}
use Rattle.commands.proofs.OwnFiles.{bytes_follow, unread_follows}
use Rattle.plan_commands.proofs.programs.answer_program_file.Goals as goal

pub returns-in-Ok-clause-follows : goal.returns-in-Ok-clause-follows
returns-in-Ok-clause-follows g c =
    let answers = rw c.as_slice.ensures.value at c.answer_accepted.ensures in
    bytes_follow Program (SaysRight c.args.all.now.soc c.args.all.now.plan) (RefusesProgram c.args.all.now.soc c.args.all.now.plan) (accepted_program c.args.all.now.soc c.args.all.now.plan) c.args.name.now c.in-Ok.bytes.items _ _ _ _ c.in-Ok.ensures.loads.0 c.in-Ok.ensures.loads.1 answers

pub returns-in-Err-clause-follows : goal.returns-in-Err-clause-follows
returns-in-Err-clause-follows g c = unread_follows Program (SaysRight c.args.all.now.soc c.args.all.now.plan) (RefusesProgram c.args.all.now.soc c.args.all.now.plan) (accepted_program c.args.all.now.soc c.args.all.now.plan) c.args.name.now _ _ _ _ c.in-Err.ensures.loads

pub returns-in-Ok-clause-by_loads : goal.returns-in-Ok-clause-by_loads
returns-in-Ok-clause-by_loads g c =
    let answers = rw c.as_slice.ensures.value at c.answer_accepted.ensures in
    own_loaded g.H.Shelf.is_load Program (SaysRight c.args.all.now.soc c.args.all.now.plan) (RefusesProgram c.args.all.now.soc c.args.all.now.plan) (accepted_program c.args.all.now.soc c.args.all.now.plan) c.args.name.now c.in-Ok.bytes.items c.args.shelf.now c.load_file.new.shelf c.answer_accepted.result c.in-Ok.ensures.by_loads answers

pub returns-in-Err-clause-by_loads : goal.returns-in-Err-clause-by_loads
returns-in-Err-clause-by_loads g c = own_stops g.H.Shelf.is_load Program (SaysRight c.args.all.now.soc c.args.all.now.plan) (RefusesProgram c.args.all.now.soc c.args.all.now.plan) (accepted_program c.args.all.now.soc c.args.all.now.plan) c.args.name.now c.args.shelf.now c.load_file.new.shelf c.in-Err.verdict c.in-Err.ensures.by_loads
