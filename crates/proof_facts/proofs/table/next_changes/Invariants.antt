use Rattle.std.proofs.Common.{◌≡◌, ◌+◌, ◌≤◌, ◌<◌, ℕ, length}
use Rattle.std.specs.Prelude.{slice_index}
use Rattle.proof_facts.specs.Tables.{IsNextChange}
use Rattle.proof_facts.proofs.table.next_changes.Given as goal

abbrev pub invariant-loop-step : goal.invariant-loop-step
invariant-loop-step l = record {
  long : length l.next.items ≡ length l.numbers;
  each : (i : ℕ) → length l.numbers ≤ i + l.step → i < length l.numbers → IsNextChange l.numbers i (slice_index l.next.items i);
}
