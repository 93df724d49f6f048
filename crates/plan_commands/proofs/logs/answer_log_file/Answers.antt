use Rattle.fail_locate.specs.LogAnswers.{SaysLog}
use Rattle.plan_commands.specs.LocateText.{locate_text}
use Rattle.plan_commands.specs.LogReadings.{RefusesFails}
use Rattle.commands.specs.declared.FileKind.TheVariants.{Log}
use Rattle.commands.proofs.LoadStages.{own_loaded, own_stops}
use Rattle.commands.proofs.OwnFiles.{bytes_follow, unread_follows}
use Rattle.plan_commands.proofs.logs.answer_log_file.Goals as goal

pub returns-in-Ok-clause-follows : goal.returns-in-Ok-clause-follows
returns-in-Ok-clause-follows g c =
    let answers = rw c.as_slice.ensures.value at c.answer_log.ensures in
    bytes_follow Log SaysLog RefusesFails (locate_text c.args.all.now.soc c.args.all.now.plan) c.args.name.now c.in-Ok.bytes.items _ _ _ _ c.in-Ok.ensures.loads.0 c.in-Ok.ensures.loads.1 answers

pub returns-in-Err-clause-follows : goal.returns-in-Err-clause-follows
returns-in-Err-clause-follows g c = unread_follows Log SaysLog RefusesFails (locate_text c.args.all.now.soc c.args.all.now.plan) c.args.name.now _ _ _ _ c.in-Err.ensures.loads

pub returns-in-Ok-clause-by_loads : goal.returns-in-Ok-clause-by_loads
returns-in-Ok-clause-by_loads g c =
    let answers = rw c.as_slice.ensures.value at c.answer_log.ensures in
    own_loaded g.H.Shelf.is_load Log SaysLog RefusesFails (locate_text c.args.all.now.soc c.args.all.now.plan) c.args.name.now c.in-Ok.bytes.items c.args.shelf.now c.load_file.new.shelf c.answer_log.result c.in-Ok.ensures.by_loads answers

pub returns-in-Err-clause-by_loads : goal.returns-in-Err-clause-by_loads
returns-in-Err-clause-by_loads g c = own_stops g.H.Shelf.is_load Log SaysLog RefusesFails (locate_text c.args.all.now.soc c.args.all.now.plan) c.args.name.now c.args.shelf.now c.load_file.new.shelf c.in-Err.verdict c.in-Err.ensures.by_loads
