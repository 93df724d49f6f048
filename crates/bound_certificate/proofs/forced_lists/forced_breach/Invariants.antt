use Rattle.std.proofs.Common.{◌≡◌, ◌+◌, ◌≤◌, length, take}
use Rattle.soc_model.specs.Chips.{soc_value}
use Rattle.plan_model.specs.Certificates.{IsForcedItem}
use Rattle.bound_certificate.specs.Forced.{IsForcedSoFar}
use Rattle.bound_certificate.proofs.Breached.{KeptBelow}
use Rattle.bound_certificate.proofs.forced_lists.forced_breach.Given as goal

abbrev pub invariant-loop-place : goal.invariant-loop-place
invariant-loop-place l = record {
  room : length l.marks ≡ 1000;
  least : l.least ≤ l.limits.wires + 1;
  so_far : IsForcedSoFar (soc_value l.soc) l.limits.wires l.claimed (take l.place l.modules) l.marks l.least;
  kept : KeptBelow (IsForcedItem (soc_value l.soc) l.limits.wires l.claimed) l.modules l.place;
}
