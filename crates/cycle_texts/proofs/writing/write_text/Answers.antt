use Rattle.std.proofs.Common.{List, ℕ, subst, true, false}
use Rattle.outside.specs.Held.{Appended, AppendedFront}
use Rattle.outside.proofs.PieceLemmas.{puts_then}
use Rattle.soc_model.specs.Chips.{soc_value}
use Rattle.plan_model.specs.Views.{plan_value}
use Rattle.cycle_texts.proofs.WholeText.{parts_stopped, tail_stopped}
use Rattle.cycle_texts.proofs.writing.write_text.Goals as goal

pub returns-in-Err-write_cycles-clause-front : goal.returns-in-Err-write_cycles-clause-front
returns-in-Err-write_cycles-clause-front g c = λ content marks stand.
    let first : Appended (g.K.Sink.written c.args.out.now) (g.F.CycleForm.head_of c.args.form.now) (g.K.Sink.written c.put_all.new.out) =
    subst (λ (t : List ℕ). Appended (g.K.Sink.written c.args.out.now) t (g.K.Sink.written c.put_all.new.out)) c.head.ensures c.in-Ok.ensures.all in
    parts_stopped (g.F.CycleForm.head_of c.args.form.now) (g.F.CycleForm.part_of c.args.form.now) (g.F.CycleForm.tail_of c.args.form.now) (soc_value c.args.source.now.soc.now) (plan_value c.args.source.now.plan.now) content marks c.args.source.now.cycles c.requires.source.cycles
    (g.K.Sink.written c.args.out.now) (g.K.Sink.written c.put_all.new.out) (g.K.Sink.written c.write_cycles.new.out) first (c.in-Err-write_cycles.ensures.front content marks stand)

pub returns-in-Err-write_cycles-clause-last_failed : goal.returns-in-Err-write_cycles-clause-last_failed
returns-in-Err-write_cycles-clause-last_failed g c =
    puts_then g.K.Sink.is_put c.args.out.now c.put_all.new.out c.write_cycles.new.out true c.in-Ok.ensures.none_failed c.in-Err-write_cycles.ensures.last_failed

pub returns-in-Ok-put_all-clause-none_failed : goal.returns-in-Ok-put_all-clause-none_failed
returns-in-Ok-put_all-clause-none_failed g c =
    puts_then g.K.Sink.is_put c.args.out.now c.write_cycles.new.out c.put_all-2.new.out false
    (puts_then g.K.Sink.is_put c.args.out.now c.put_all.new.out c.write_cycles.new.out false c.in-Ok.ensures.none_failed c.in-Ok-write_cycles.ensures.none_failed) c.in-Ok-put_all.ensures.none_failed

pub returns-in-Err-put_all-clause-front : goal.returns-in-Err-put_all-clause-front
returns-in-Err-put_all-clause-front g c = λ content marks stand.
    let first : Appended (g.K.Sink.written c.args.out.now) (g.F.CycleForm.head_of c.args.form.now) (g.K.Sink.written c.put_all.new.out) =
    subst (λ (t : List ℕ). Appended (g.K.Sink.written c.args.out.now) t (g.K.Sink.written c.put_all.new.out)) c.head.ensures c.in-Ok.ensures.all in
    tail_stopped (g.F.CycleForm.head_of c.args.form.now) (g.F.CycleForm.part_of c.args.form.now) (g.F.CycleForm.tail_of c.args.form.now) (soc_value c.args.source.now.soc.now) (plan_value c.args.source.now.plan.now) content marks c.args.source.now.cycles c.requires.source.cycles
    (g.K.Sink.written c.args.out.now) (g.K.Sink.written c.put_all.new.out) (g.K.Sink.written c.write_cycles.new.out) (g.K.Sink.written c.put_all-2.new.out) first (c.in-Ok-write_cycles.ensures.all content marks stand)
    (subst (λ (t : List ℕ). AppendedFront (g.K.Sink.written c.write_cycles.new.out) t (g.K.Sink.written c.put_all-2.new.out)) c.tail.ensures c.in-Err-put_all.ensures.front)

pub returns-in-Err-put_all-clause-last_failed : goal.returns-in-Err-put_all-clause-last_failed
returns-in-Err-put_all-clause-last_failed g c =
    puts_then g.K.Sink.is_put c.args.out.now c.write_cycles.new.out c.put_all-2.new.out true
    (puts_then g.K.Sink.is_put c.args.out.now c.put_all.new.out c.write_cycles.new.out false c.in-Ok.ensures.none_failed c.in-Ok-write_cycles.ensures.none_failed) c.in-Err-put_all.ensures.last_failed
