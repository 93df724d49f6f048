use Rattle.std.proofs.Common.{◌≡◌, ℕ, ◌<◌, length}
use Rattle.soc_model.specs.Chips.{soc_value}
use Rattle.plan_model.specs.Certificates.{has_tam_at}
use Rattle.leaf_bounds.specs.Takings.{bit_at}
use Rattle.leaf_bounds.proofs.basis.all_wired.Given as goal

abbrev pub invariant-loop-place : goal.invariant-loop-place
invariant-loop-place l = record {
  long : length l.wired.items ≡ l.place;
  wired : (p : ℕ) → p < l.place → bit_at l.wired.items p ≡ has_tam_at (soc_value l.soc) p;
}
