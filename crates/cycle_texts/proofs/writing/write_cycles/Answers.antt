use Rattle.std.proofs.Common.{◌≡◌, ◌+◌, ◌-◌, ℕ, arith, refl, ◌∙◌, subst, true, false}
use Rattle.outside.specs.Held.{Appended}
use Rattle.outside.specs.Puts.{Puts}
use Rattle.outside.proofs.PieceLemmas.{Appended-nil, puts_then}
use Rattle.soc_model.specs.Chips.{soc_value}
use Rattle.plan_model.specs.Views.{plan_value}
use Rattle.cycle_texts.specs.ProgramText.{parts_of, row_at}
use Rattle.cycle_texts.proofs.BlockParts.{block_behind, block_stopped}
use Rattle.cycle_texts.proofs.writing.write_cycles.Goals as goal

pub loop-done-init : goal.loop-done-init
loop-done-init g c = record {
  within = omega arith;
  lines = refl;
  digits = refl;
  text = refl;
  written = λ content marks stand. Appended-nil (g.K.Sink.written c.args.out.now);
  faults = omega arith;
  puts = Puts.begins;
}

pub returns-in-Err-clause-front : goal.returns-in-Err-clause-front
returns-in-Err-clause-front g c = λ content marks stand.
    block_stopped (g.F.CycleForm.part_of c.args.form.now) (row_at (soc_value c.args.source.now.soc.now) (plan_value c.args.source.now.plan.now) content marks) (g.K.Sink.written c.args.out.now) (g.K.Sink.written c.loop-done.out) (g.K.Sink.written c.put_parts.new.out)
    c.loop-done.done c.min-earlier.result (c.loop-done.done - c.min-earlier.result) (c.min-earlier.result + c.min-count.result) c.min-count.result c.args.source.now.cycles
    (omega (arith, c.min-earlier.ensures)) refl (omega (arith, c.min-count.ensures, c.loop-done-test.true))
    (c.loop-done.invariant.written content marks stand)
    (c.in-Err.ensures.front (row_at (soc_value c.args.source.now.soc.now) (plan_value c.args.source.now.plan.now) content marks) (c.fill.ensures.rows content marks stand))

pub returns-in-Err-clause-last_failed : goal.returns-in-Err-clause-last_failed
returns-in-Err-clause-last_failed g c = puts_then g.K.Sink.is_put c.args.out.now c.loop-done.out c.put_parts.new.out true c.loop-done.invariant.puts c.in-Err.ensures.last_failed

pub loop-done-preserved : goal.loop-done-preserved
loop-done-preserved g c = record {
  within = omega (arith, c.min-count.ensures, c.loop-done-test.true);
  lines = c.fill.ensures.lines ∙ c.loop-done.invariant.lines;
  digits = c.fill.ensures.digits ∙ c.loop-done.invariant.digits;
  text = c.put_parts.auto.text ∙ c.loop-done.invariant.text;
  written = λ content marks stand.
      block_behind (g.F.CycleForm.part_of c.args.form.now) (row_at (soc_value c.args.source.now.soc.now) (plan_value c.args.source.now.plan.now) content marks) (g.K.Sink.written c.args.out.now) (g.K.Sink.written c.loop-done.out) (g.K.Sink.written c.put_parts.new.out)
      c.loop-done.done c.min-earlier.result (c.loop-done.done - c.min-earlier.result) (c.min-earlier.result + c.min-count.result) c.min-count.result
      (omega (arith, c.min-earlier.ensures)) refl
      (c.loop-done.invariant.written content marks stand)
      (c.in-Ok.ensures.all (row_at (soc_value c.args.source.now.soc.now) (plan_value c.args.source.now.plan.now) content marks) (c.fill.ensures.rows content marks stand));
  faults = omega (arith, c.loop-done.invariant.faults, c.put_parts.ensures.faults_never_fall);
  puts = puts_then g.K.Sink.is_put c.args.out.now c.loop-done.out c.put_parts.new.out false c.loop-done.invariant.puts c.in-Ok.ensures.none_failed;
}

pub returns-clause-all : goal.returns-clause-all
returns-clause-all g c = λ content marks stand.
    let done : c.loop-done.done ≡ c.args.source.now.cycles = omega (arith, c.loop-done.invariant.within, c.loop-done-test.false) in
    subst (λ (n : ℕ). Appended (g.K.Sink.written c.args.out.now) (parts_of (g.F.CycleForm.part_of c.args.form.now) (row_at (soc_value c.args.source.now.soc.now) (plan_value c.args.source.now.plan.now) content marks) 0 n) (g.K.Sink.written c.loop-done.out)) done (c.loop-done.invariant.written content marks stand)
