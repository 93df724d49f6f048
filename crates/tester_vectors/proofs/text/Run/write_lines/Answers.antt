use Rattle.std.proofs.Common.{rules, ◌≡◌, ◌+◌, ◌-◌, ◌*◌, ◌∙◌, Err, ap, subst, sym, take, List, ℕ, arith, refl, true, false}
use Rattle.outside.specs.Held.{Appended}
use Rattle.outside.specs.Puts.{Puts}
use Rattle.outside.proofs.PieceLemmas.{Appended-nil, Appended-then, puts_then}
use Rattle.soc_model.specs.Chips.{soc_value}
use Rattle.plan_model.specs.Plans.{PlanValue, planned}
use Rattle.plan_model.specs.Views.{plan_value}
use Rattle.vector_lines.specs.Wires.{wires_of}
use Rattle.tester_vectors.specs.Lines.{lines_of}
use Rattle.tester_vectors.specs.VectorText.{cycle_line}
use Rattle.tester_vectors.proofs.Blocks.{lines_more_split, lines_rest, front_after, same_lines}
use Rattle.tester_vectors.proofs.text.Run.write_lines.Goals as goal

pub returns-in_err-put_all-clause-front : goal.returns-in_err-put_all-clause-front
returns-in_err-put_all-clause-front g c = λ content marks stand.
    let soc = soc_value c.args.self.now.soc.now in
    let plan = plan_value c.args.self.now.plan.now in
    let lines : take (c.next_block-count.result * c.next_block-count.new.self.line) c.deref.result.now ≡ lines_of soc plan content marks c.loop-done.done c.next_block-count.result =
    ap (take (c.next_block-count.result * c.next_block-count.new.self.line)) c.deref.ensures.value
    ∙ same_lines (ap soc_value c.loop-done.invariant.same.soc) (ap plan_value c.loop-done.invariant.same.plan) stand c.loop-done.done c.next_block-count.result _ c.next_block-count.ensures.text in
    let cycles : (plan_value c.loop-done.self.plan.now).cycles ≡ c.args.cycles = ap (λ (p : PlanValue). p.cycles) (ap plan_value c.loop-done.invariant.same.plan) ∙ sym c.requires.cycles in
    let is : c.from_residual.result ≡ Err c.in_err-put_all.field-0.0 = search rules in
    rw is
    (front_after (g.K.Sink.written c.args.out.now) (g.K.Sink.written c.loop-done.out) (g.K.Sink.written c.put_all.new.out) (lines_of soc plan content marks 0 c.loop-done.done)
    (take (c.next_block-count.result * c.next_block-count.new.self.line) c.deref.result.now)
    (lines_of soc plan content marks (c.loop-done.done + c.next_block-count.result) (c.args.cycles - (c.loop-done.done + c.next_block-count.result))) (lines_of soc plan content marks 0 c.args.cycles)
    (lines_rest (cycle_line content marks (planned soc plan) (wires_of plan)) c.loop-done.done c.next_block-count.result c.args.cycles (omega (arith, c.next_block-count.ensures.within, cycles)) lines)
    (c.loop-done.invariant.written content marks stand) c.in_err-put_all.ensures.front)

pub returns-in_err-put_all-clause-last_failed : goal.returns-in_err-put_all-clause-last_failed
returns-in_err-put_all-clause-last_failed g c =
    let is : c.from_residual.result ≡ Err c.in_err-put_all.field-0.0 = search rules in
    rw is (puts_then g.K.Sink.is_put c.args.out.now c.loop-done.out c.put_all.new.out true c.loop-done.invariant.puts c.in_err-put_all.ensures.last_failed)

pub next_block-count-requires-clause-left : goal.next_block-count-requires-clause-left
next_block-count-requires-clause-left g c =
    let cycles : (plan_value c.loop-done.self.plan.now).cycles ≡ c.args.cycles = ap (λ (p : PlanValue). p.cycles) (ap plan_value c.loop-done.invariant.same.plan) ∙ sym c.requires.cycles in
    omega (arith, cycles, c.loop-done-test.true)

pub overflow_add-done : goal.overflow_add-done
overflow_add-done g c =
    let cycles : (plan_value c.loop-done.self.plan.now).cycles ≡ c.args.cycles = ap (λ (p : PlanValue). p.cycles) (ap plan_value c.loop-done.invariant.same.plan) ∙ sym c.requires.cycles in
    omega (arith, cycles, c.next_block-count.ensures.within, c.ranges.cycles.fits)

pub loop-done-init : goal.loop-done-init
loop-done-init g c =
    record { run = c.requires.run; same = record { soc = refl; plan = refl }; within = omega arith; written = λ content marks stand. Appended-nil (g.K.Sink.written c.args.out.now); faults = omega arith; puts = Puts.begins }

pub loop-done-preserved : goal.loop-done-preserved
loop-done-preserved g c =
    let cycles : (plan_value c.loop-done.self.plan.now).cycles ≡ c.args.cycles = ap (λ (p : PlanValue). p.cycles) (ap plan_value c.loop-done.invariant.same.plan) ∙ sym c.requires.cycles in
    record {
      run = c.next_block-count.ensures.run;
      same = record { soc = c.next_block-count.ensures.same.soc ∙ c.loop-done.invariant.same.soc; plan = c.next_block-count.ensures.same.plan ∙ c.loop-done.invariant.same.plan };
      within = omega (arith, c.next_block-count.ensures.within, cycles);
      written = λ content marks stand.
          let soc = soc_value c.args.self.now.soc.now in
          let plan = plan_value c.args.self.now.plan.now in
          let lines : take (c.next_block-count.result * c.next_block-count.new.self.line) c.deref.result.now ≡ lines_of soc plan content marks c.loop-done.done c.next_block-count.result =
          ap (take (c.next_block-count.result * c.next_block-count.new.self.line)) c.deref.ensures.value
          ∙ same_lines (ap soc_value c.loop-done.invariant.same.soc) (ap plan_value c.loop-done.invariant.same.plan) stand c.loop-done.done c.next_block-count.result _ c.next_block-count.ensures.text in
          let more = lines_more_split (cycle_line content marks (planned soc plan) (wires_of plan)) c.loop-done.done c.next_block-count.result lines in
          subst (λ (text : List ℕ). Appended (g.K.Sink.written c.args.out.now) text (g.K.Sink.written c.put_all.new.out)) more
          (Appended-then (g.K.Sink.written c.args.out.now) (g.K.Sink.written c.loop-done.out) (g.K.Sink.written c.put_all.new.out) (lines_of soc plan content marks 0 c.loop-done.done)
          (take (c.next_block-count.result * c.next_block-count.new.self.line) c.deref.result.now) (c.loop-done.invariant.written content marks stand) c.in_ok-put_all.ensures.all);
      faults = omega (arith, c.loop-done.invariant.faults, c.put_all.ensures.faults_never_fall);
      puts = puts_then g.K.Sink.is_put c.args.out.now c.loop-done.out c.put_all.new.out false c.loop-done.invariant.puts c.in_ok-put_all.ensures.none_failed;
    }
