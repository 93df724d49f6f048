use Rattle.std.proofs.Common.{◌+◌, ◌∙◌, ap, sym, refl, fold}
use Rattle.plan_model.specs.Certificates.{certificate_value}
use Rattle.bound_certificate.specs.Best.{better, module_why}
use Rattle.bound_certificate.specs.Winners.{seen}
use Rattle.bound_certificate.proofs.Considered.{next_place}
use Rattle.bound_certificate.proofs.candidates.consider_modules.Goals as goal

pub loop-place-preserved : goal.loop-place-preserved
loop-place-preserved c = record {
  so_far = c.consider_module-best.ensures.seen ∙ ap (λ o. fold (better (certificate_value c.args.problem.now.soc c.args.problem.now.limits)) o (module_why c.args.problem.now.soc c.loop-place.place)) c.loop-place.invariant.so_far
      ∙ sym (next_place (better (certificate_value c.args.problem.now.soc c.args.problem.now.limits)) (module_why c.args.problem.now.soc) (seen c.args.best) c.loop-place.place (c.loop-place.place + 1) refl);
  value = c.consider_module-best.ensures.value;
}
