use Rattle.std.proofs.Common.{◌≡◌, ℕ, ◌<◌, Some, length, slice_get, slice_index}
use Rattle.bit_machine.specs.Packed.{IsLineWord}
use Rattle.vector_lines.specs.declared.path.Path.{Path}
use Rattle.bit_machine.proofs.stepped.fill_words.Given as goal

abbrev pub invariant-loop-place : goal.invariant-loop-place
invariant-loop-place l = record {
  many : length l.words ≡ length l.paths;
  done : (j : ℕ) (p : Path) → j < l.place → slice_get l.paths j ≡ Some p → IsLineWord l.line p.loads l.first (slice_index l.words j);
}
