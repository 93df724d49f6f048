use Rattle.std.proofs.Common.{◌≡◌, ◌+◌, ◌-◌, ◌≤◌, ℕ, length, take, false}
use Rattle.outside.specs.Puts.{Puts}
use Rattle.cycle_texts.specs.Rows.{CycleRow}
use Rattle.cycle_texts.specs.ProgramText.{parts_of}
use Rattle.cycle_texts.specs.RowBlocks.{HasRows}
use Rattle.cycle_texts.specs.UnderWay.{IsUnderWay}
use Rattle.cycle_texts.proofs.parts.put_parts.Given as goal

abbrev pub invariant-loop-place : goal.invariant-loop-place
invariant-loop-place g l = record {
  passed : l.skipped ≤ l.place;
  within : l.place ≤ l.block.rows;
  at : l.at ≤ length l.text;
  long : length l.text ≡ length l.initial.text;
  written : (row : ℕ → CycleRow) → HasRows row l.block → IsUnderWay (g.K.Sink.written l.initial.out) (take l.at l.text) (parts_of (g.F.CycleForm.part_of l.form) row (l.block.first + l.skipped) (l.place - l.skipped)) (g.K.Sink.written l.out);
  faults : g.K.Sink.faults l.initial.out ≤ g.K.Sink.faults l.out;
  puts : Puts g.K.Sink.is_put l.initial.out false l.out;
}

abbrev pub decreases-loop-place : goal.decreases-loop-place
decreases-loop-place g l = l.block.rows - l.place
