use Rattle.std.proofs.Common.{ℕ, arith}
use Rattle.std.proofs.lemmas.List.Sums.{sum_by_more}
use Rattle.soc_model.specs.Chips.{soc_value}
use Rattle.soc_model.specs.Lookups.{module_place}
use Rattle.plan_model.specs.Bounds.{lower_tam_time}
use Rattle.plan_model.specs.Certificates.{on}
use Rattle.bound_certificate.proofs.forced_lists.forced_sum.Goals as goal

pub loop-number-preserved : goal.loop-number-preserved
loop-number-preserved c =
    let more = sum_by_more (λ (m : ℕ). on (module_place (soc_value c.args.soc.now) m) (λ place. lower_tam_time (soc_value c.args.soc.now) place c.args.wires)) c.args.modules.now c.loop-number.number-index 0 c.loop-number-test.true in
    record {
      sum_is = omega (arith, more, c.from-sum.ensures, c.tam_time_of.ensures.time, c.loop-number.invariant.sum_is);
      few = omega (arith, c.from-sum.ensures, c.tam_time_of.ensures.small, c.loop-number.invariant.few);
    }
