use Rattle.std.proofs.Common.{◌-◌, ◌≤◌, false}
use Rattle.outside.specs.Held.{Appended}
use Rattle.outside.specs.Puts.{Puts}
use Rattle.soc_model.specs.Chips.{soc_value}
use Rattle.plan_model.specs.Runs.{Content}
use Rattle.plan_model.specs.Views.{plan_value}
use Rattle.vector_lines.specs.Marks.{Marks}
use Rattle.vector_lines.specs.Placed.{StandFor}
use Rattle.tester_vectors.specs.Lines.{lines_of, IsRun, IsSamePlan}
use Rattle.tester_vectors.proofs.text.Run.write_lines.Given as goal

abbrev pub invariant-loop-done : goal.invariant-loop-done
invariant-loop-done g l = record {
  run : IsRun (g.C.Contents.keys l.contents) l.self;
  same : IsSamePlan l.initial.self l.self;
  within : l.done ≤ l.cycles;
  written : (content : Content) (marks : Marks) → StandFor (g.C.Contents.keys l.contents) (g.C.Contents.drive l.contents) (g.C.Contents.mark l.contents) (soc_value l.initial.self.soc.now) content marks →
      Appended (g.K.Sink.written l.initial.out) (lines_of (soc_value l.initial.self.soc.now) (plan_value l.initial.self.plan.now) content marks 0 l.done) (g.K.Sink.written l.out);
  faults : g.K.Sink.faults l.initial.out ≤ g.K.Sink.faults l.out;
  puts : Puts g.K.Sink.is_put l.initial.out false l.out;
}

abbrev pub decreases-loop-done : goal.decreases-loop-done
decreases-loop-done g l = l.cycles - l.done
