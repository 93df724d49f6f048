use Rattle.std.proofs.Common.{◌≡◌, ◌≤◌, ◌*◌, ◌^◌, take, sum_by}
use Rattle.soc_model.specs.Chips.{soc_value}
use Rattle.plan_model.specs.Bounds.{lower_tam_time}
use Rattle.plan_model.specs.Certificates.{on}
use Rattle.soc_model.specs.Lookups.{module_place}
use Rattle.bound_certificate.proofs.forced_lists.forced_sum.Given as goal

abbrev pub invariant-loop-number : goal.invariant-loop-number
invariant-loop-number l = record {
  sum_is : l.sum ≡ sum_by (λ m. on (module_place (soc_value l.soc) m) (λ place. lower_tam_time (soc_value l.soc) place l.wires)) (take l.number-index l.modules);
  few : l.sum ≤ 10 ^ 18 * l.number-index;
}
