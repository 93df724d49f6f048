use Rattle.std.proofs.Common.{◌≡◌, ◌-◌, ◌≤◌, length, false}
use Rattle.outside.specs.Held.{Appended}
use Rattle.outside.specs.Puts.{Puts}
use Rattle.soc_model.specs.Chips.{soc_value}
use Rattle.plan_model.specs.Runs.{Content}
use Rattle.plan_model.specs.Views.{plan_value}
use Rattle.vector_lines.specs.Marks.{Marks}
use Rattle.vector_lines.specs.Placed.{StandFor}
use Rattle.cycle_texts.specs.ProgramText.{parts_of, row_at}
use Rattle.cycle_texts.proofs.writing.write_cycles.Given as goal

abbrev pub invariant-loop-done : goal.invariant-loop-done
invariant-loop-done g l = record {
  within : l.done ≤ l.source.cycles;
  lines : length l.lines ≡ length l.initial.lines;
  digits : length l.digits ≡ length l.initial.digits;
  text : length l.text ≡ length l.initial.text;
  written : (content : Content) (marks : Marks) → StandFor (g.C.Contents.keys l.contents) (g.C.Contents.drive l.contents) (g.C.Contents.mark l.contents) (soc_value l.source.soc.now) content marks →
      Appended (g.K.Sink.written l.initial.out) (parts_of (g.F.CycleForm.part_of l.form) (row_at (soc_value l.source.soc.now) (plan_value l.source.plan.now) content marks) 0 l.done) (g.K.Sink.written l.out);
  faults : g.K.Sink.faults l.initial.out ≤ g.K.Sink.faults l.out;
  puts : Puts g.K.Sink.is_put l.initial.out false l.out;
}

abbrev pub decreases-loop-done : goal.decreases-loop-done
decreases-loop-done g l = l.source.cycles - l.done
