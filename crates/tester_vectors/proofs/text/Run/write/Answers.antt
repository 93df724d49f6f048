use Rattle.std.proofs.Common.{rules, ◌≡◌, ◌++◌, ◌∙◌, Err, [], ap, sym, subst, List, ℕ, true, false}
use Rattle.std.proofs.lemmas.List.{append-nil}
use Rattle.outside.specs.Held.{AppendedFront}
use Rattle.outside.proofs.PieceLemmas.{puts_then}
use Rattle.soc_model.specs.Chips.{soc_value}
use Rattle.plan_model.specs.Views.{plan_value}
use Rattle.vector_lines.specs.Wires.{wires_of}
use Rattle.tester_vectors.specs.Lines.{lines_of}
use Rattle.tester_vectors.specs.VectorText.{head_line, marked_text}
use Rattle.tester_vectors.proofs.Blocks.{front_after, front_longer}
use Rattle.tester_vectors.proofs.text.Run.write.Goals as goal

pub returns-in_err-put_all-clause-front : goal.returns-in_err-put_all-clause-front
returns-in_err-put_all-clause-front g c = λ content marks stand.
    let soc = soc_value c.args.self.now.soc.now in
    let plan = plan_value c.args.self.now.plan.now in
    let head = c.deref.ensures.value ∙ c.requires.run.head in
    let is : c.from_residual.result ≡ Err c.in_err-put_all.field-0.0 = search rules in
    rw is
    (front_longer (g.K.Sink.written c.args.out.now) (g.K.Sink.written c.put_all.new.out) (head_line (wires_of plan) plan.cycles) (lines_of soc plan content marks 0 plan.cycles)
    (subst (λ (text : List ℕ). AppendedFront (g.K.Sink.written c.args.out.now) text (g.K.Sink.written c.put_all.new.out)) head c.in_err-put_all.ensures.front))

pub returns-in-Err-clause-front : goal.returns-in-Err-clause-front
returns-in-Err-clause-front g c = λ content marks stand.
    let soc = soc_value c.args.self.now.soc.now in
    let plan = plan_value c.args.self.now.plan.now in
    let head = c.deref.ensures.value ∙ c.requires.run.head in
    front_after (g.K.Sink.written c.args.out.now) (g.K.Sink.written c.put_all.new.out) (g.K.Sink.written c.write_lines.new.out) c.deref.result.now (lines_of soc plan content marks 0 plan.cycles) [] (marked_text soc plan content marks)
    (ap (λ (text : List ℕ). text ++ lines_of soc plan content marks 0 plan.cycles) (sym head) ∙ ap (λ (text : List ℕ). c.deref.result.now ++ text) (sym (append-nil (lines_of soc plan content marks 0 plan.cycles))))
    c.in_ok-put_all.ensures.all (c.in-Err.ensures.front content marks stand)

pub returns-in-Ok-clause-none_failed : goal.returns-in-Ok-clause-none_failed
returns-in-Ok-clause-none_failed g c = puts_then g.K.Sink.is_put c.args.out.now c.put_all.new.out c.write_lines.new.out false c.in_ok-put_all.ensures.none_failed c.in-Ok.ensures.none_failed

pub returns-in-Err-clause-last_failed : goal.returns-in-Err-clause-last_failed
returns-in-Err-clause-last_failed g c = puts_then g.K.Sink.is_put c.args.out.now c.put_all.new.out c.write_lines.new.out true c.in_ok-put_all.ensures.none_failed c.in-Err.ensures.last_failed
