use Rattle.std.proofs.Common.{◌≡◌, ℕ, ◌<◌, take, length, slice_index, sum}
use Rattle.vector_lines.proofs.layout.starts_of.Given as goal

abbrev pub invariant-loop-length : goal.invariant-loop-length
invariant-loop-length l =
    (l.start ≡ sum (take l.length-index l.lengths))
    × (length l.starts.items ≡ l.length-index)
    × ((c : ℕ) → c < l.length-index → slice_index l.starts.items c ≡ sum (take c l.lengths))
