use Rattle.std.proofs.Common.{◌≡◌, ℕ, ◌≤◌, Some, [], length, get_or, slice_get, vec_capacity}
use Rattle.busy_times.specs.declared.timelines.Timeline.{Timeline}
use Rattle.resource_table.proofs.empty_times.timelines_of_rooms.Given as goal

abbrev pub invariant-loop-room : goal.invariant-loop-room
invariant-loop-room l = record {
  long : length l.lines.items ≡ l.room-index;
  empty : (k : ℕ) (line : Timeline) → slice_get l.lines.items k ≡ Some line → line.spans.items ≡ [];
  room : (k : ℕ) (line : Timeline) → slice_get l.lines.items k ≡ Some line → get_or l.rooms k 0 ≤ vec_capacity line.spans;
}
