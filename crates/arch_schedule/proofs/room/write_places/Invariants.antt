use Rattle.std.proofs.Common.{◌≡◌, ◌<◌, ℕ, length, take, All}
use Rattle.arch_schedule.specs.declared.sorting.Keyed.{Keyed}
use Rattle.arch_schedule.proofs.room.write_places.Given as goal

abbrev pub invariant-loop-place : goal.invariant-loop-place
invariant-loop-place l = record {
  long : length l.order ≡ length l.keys;
  done : (n : ℕ) → All (λ (k : Keyed). k.place < n) l.keys → All (λ place. place < n) (take l.place l.order);
}
