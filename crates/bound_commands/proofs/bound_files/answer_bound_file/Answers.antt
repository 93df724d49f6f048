use Rattle.std.proofs.Common.{◌≤◌, Err, length, subst}
use Rattle.outside.specs.declared.shelf.Loaded.TheVariants.{Whole}
use Rattle.commands.specs.Loads.{LoadsFile}
use Rattle.commands.specs.Readings.{most_of}
use Rattle.commands.specs.Procedures.{with_bytes}
use Rattle.commands.specs.Decides.{Follows}
use Rattle.bound_commands.proofs.BoundFiles.{file_follows, file_unread, file_loaded, file_stops}
use Rattle.bound_commands.proofs.bound_files.answer_bound_file.Goals as goal

pub returns-in-Ok-clause-follows : goal.returns-in-Ok-clause-follows
returns-in-Ok-clause-follows g c =
    let answers = rw c.as_slice.ensures.value at c.answer_bytes.ensures in
    file_follows c.args.file c.args.name.now c.in-Ok.bytes.items _ _ _ _ c.in-Ok.ensures.loads.0 (subst (λ kind. length c.in-Ok.bytes.items ≤ most_of kind) c.kind_of.ensures c.in-Ok.ensures.loads.1) answers

pub returns-in-Err-clause-follows : goal.returns-in-Err-clause-follows
returns-in-Err-clause-follows g c =
    file_unread c.args.file c.args.name.now _ _ _ _ (subst (λ kind. Follows (with_bytes kind c.args.name.now) (g.H.Shelf.held c.args.shelf.now) (g.H.Shelf.faults c.args.shelf.now) (g.H.Shelf.faults c.load_file.new.shelf) c.in-Err.verdict) c.kind_of.ensures c.in-Err.ensures.loads)

pub returns-in-Ok-clause-by_loads : goal.returns-in-Ok-clause-by_loads
returns-in-Ok-clause-by_loads g c =
    let answers = rw c.as_slice.ensures.value at c.answer_bytes.ensures in
    file_loaded g.H.Shelf.is_load c.args.file c.args.name.now c.in-Ok.bytes.items c.args.shelf.now c.load_file.new.shelf c.answer_bytes.result
    (subst (λ kind. g.H.Shelf.is_load c.args.shelf.now c.args.name.now (most_of kind) Whole c.in-Ok.bytes.items c.load_file.new.shelf) c.kind_of.ensures c.in-Ok.ensures.by_loads) answers

pub returns-in-Err-clause-by_loads : goal.returns-in-Err-clause-by_loads
returns-in-Err-clause-by_loads g c =
    file_stops g.H.Shelf.is_load c.args.file c.args.name.now c.args.shelf.now c.load_file.new.shelf c.in-Err.verdict
    (subst (λ kind. LoadsFile g.H.Shelf.is_load kind c.args.name.now c.args.shelf.now (Err c.in-Err.verdict) c.load_file.new.shelf) c.kind_of.ensures c.in-Err.ensures.by_loads)
