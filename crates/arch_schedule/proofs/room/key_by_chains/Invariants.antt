use Rattle.std.proofs.Common.{◌≡◌, ◌<◌, length, take, All}
use Rattle.arch_schedule.specs.declared.sorting.Keyed.{Keyed}
use Rattle.arch_schedule.proofs.room.key_by_chains.Given as goal

abbrev pub invariant-loop-place : goal.invariant-loop-place
invariant-loop-place l = record {
  long : length l.keys ≡ length l.chains;
  done : All (λ (k : Keyed). k.place < length l.chains) (take l.place l.keys);
}
