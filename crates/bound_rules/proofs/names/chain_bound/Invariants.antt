use Rattle.std.proofs.Common.{◌≡◌, ◌≤◌, ◌*◌, ◌^◌, take}
use Rattle.std.specs.List.{sum_by}
use Rattle.soc_model.specs.Chips.{soc_value}
use Rattle.plan_model.specs.Certificates.{lower_of_id}
use Rattle.bound_rules.proofs.names.chain_bound.Given as goal

abbrev pub invariant-loop-id : goal.invariant-loop-id
invariant-loop-id l = record {
  sum_is : l.sum ≡ sum_by (lower_of_id (soc_value l.soc) l.wires) (take l.id-index l.tests);
  few : l.sum ≤ 10 ^ 18 * l.id-index;
}
