use Rattle.std.proofs.Common.{◌≡◌, ℕ, ◌-◌, ◌%◌, ◌<◌, get_or, false, slice_index}
use Rattle.bit_machine.specs.Packed.{IsLineWord}
use Rattle.vector_lines.specs.Made.{made_from}
use Rattle.bit_machine.proofs.stepping.holds_stimulus.Given as goal

abbrev pub invariant-loop-cell : goal.invariant-loop-cell
invariant-loop-cell l = record {
  done : (r : ℕ) → r < l.cell → get_or l.ring r false ≡ made_from l.base l.pattern (slice_index l.path.loads r) 0;
  word : 0 < l.cell % 64 → IsLineWord l.line l.path.loads (l.cell - l.cell % 64) l.word;
}
