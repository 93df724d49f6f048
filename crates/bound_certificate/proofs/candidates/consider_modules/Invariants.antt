use Rattle.std.proofs.Common.{◌≡◌}
use Rattle.std.specs.List.{fold, flat_map, range_with_len}
use Rattle.plan_model.specs.Certificates.{certificate_value}
use Rattle.bound_certificate.specs.Best.{better, module_why}
use Rattle.bound_certificate.specs.Winners.{seen, HasValue}
use Rattle.bound_certificate.proofs.candidates.consider_modules.Given as goal

abbrev pub invariant-loop-place : goal.invariant-loop-place
invariant-loop-place l = record {
  so_far : seen l.best ≡ fold (better (certificate_value l.problem.soc l.problem.limits)) (seen l.fn.best) (flat_map (module_why l.problem.soc) (range_with_len 0 l.place));
  value : HasValue l.problem.soc l.problem.limits l.best;
}
