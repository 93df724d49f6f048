use Rattle.std.proofs.Common.{ℕ, List, arith}
use Rattle.outside.specs.Held.{Appended, AppendedFront}
use Rattle.soc_model.specs.Chips.{soc_value}
use Rattle.plan_model.specs.Views.{plan_value}
use Rattle.cycle_texts.proofs.WholeText.{same_program}
use Rattle.cycle_texts.proofs.write_program.Goals as goal

pub new-requires-2-clause-few : goal.new-requires-2-clause-few
new-requires-2-clause-few g c = omega (arith, c.in-Ok.ensures.source.few, c.requires.cycles)

pub returns-in-Ok-new-clause-written : goal.returns-in-Ok-new-clause-written
returns-in-Ok-new-clause-written g c = λ is content marks stand.
    same_program (λ (t : List ℕ). Appended (g.K.Sink.written c.args.out.now) t (g.K.Sink.written c.write_in_room.new.out))
    (g.C.Contents.keys c.args.contents.now) (g.C.Contents.drive c.args.contents.now) (g.C.Contents.mark c.args.contents.now)
    (g.F.CycleForm.head_of c.args.form.now) (g.F.CycleForm.part_of c.args.form.now) (g.F.CycleForm.tail_of c.args.form.now)
    (soc_value c.in-Ok.source.soc.now) c.args.placed.now.soc (plan_value c.in-Ok.source.plan.now) c.args.placed.now.plan content marks
    c.in-Ok.ensures.soc c.in-Ok.ensures.plan stand (c.write_in_room.ensures.written is)

pub returns-in-Ok-new-clause-front : goal.returns-in-Ok-new-clause-front
returns-in-Ok-new-clause-front g c = λ is content marks stand.
    same_program (λ (t : List ℕ). AppendedFront (g.K.Sink.written c.args.out.now) t (g.K.Sink.written c.write_in_room.new.out))
    (g.C.Contents.keys c.args.contents.now) (g.C.Contents.drive c.args.contents.now) (g.C.Contents.mark c.args.contents.now)
    (g.F.CycleForm.head_of c.args.form.now) (g.F.CycleForm.part_of c.args.form.now) (g.F.CycleForm.tail_of c.args.form.now)
    (soc_value c.in-Ok.source.soc.now) c.args.placed.now.soc (plan_value c.in-Ok.source.plan.now) c.args.placed.now.plan content marks
    c.in-Ok.ensures.soc c.in-Ok.ensures.plan stand (c.write_in_room.ensures.front is)
