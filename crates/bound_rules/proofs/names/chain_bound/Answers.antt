use Rattle.std.proofs.Common.{◌≡◌, ◌≤◌, ◌^◌, ◌∙◌, take, get_or, ap, arith}
use Rattle.std.specs.List.{sum_by}
use Rattle.std.proofs.lemmas.List.{take_all}
use Rattle.std.proofs.lemmas.List.Sums.{sum_by_more}
use Rattle.soc_model.specs.declared.TestId.{TestId}
use Rattle.soc_model.specs.Chips.{soc_value}
use Rattle.plan_model.specs.Certificates.{lower_of_id}
use Rattle.plan_model.proofs.CertificatesAreBounds.{chains_bound}
use Rattle.bound_rules.proofs.Naming.{time_or_zero, or_zero-le}
use Rattle.bound_rules.proofs.names.chain_bound.Goals as goal

no_id : TestId
no_id = record { «module» = 0; test = 0 }

pub loop-id-preserved : goal.loop-id-preserved
unfolding no_id
loop-id-preserved c =
    let more = sum_by_more (lower_of_id (soc_value c.args.soc.now) c.args.wires) c.args.tests.now c.loop-id.id-index no_id c.loop-id-test.true in
    let this = time_or_zero (soc_value c.args.soc.now) c.args.wires (get_or c.args.tests.now c.loop-id.id-index no_id) c.live_time.result c.live_time.ensures.time in
    record {
      sum_is = omega (arith, more, this, c.unwrap_or.ensures, c.loop-id.invariant.sum_is);
      few = omega (arith, or_zero-le c.live_time.result (10 ^ 18) c.live_time.ensures.small, c.unwrap_or.ensures, c.loop-id.invariant.few);
    }

pub returns-clause-bound : goal.returns-clause-bound
returns-clause-bound c = λ limits same keeps plan good.
    let all : take c.loop-id.id-index c.args.tests.now ≡ c.args.tests.now = take_all c.loop-id.id-index c.args.tests.now (omega (arith, c.loop-id-test.false)) in
    let whole : c.loop-id.sum ≡ sum_by (lower_of_id (soc_value c.args.soc.now) c.args.wires) c.args.tests.now = c.loop-id.invariant.sum_is ∙ ap (sum_by (lower_of_id (soc_value c.args.soc.now) c.args.wires)) all in
    let bound : sum_by (lower_of_id (soc_value c.args.soc.now) limits.wires) c.args.tests.now ≤ plan.cycles = chains_bound (soc_value c.args.soc.now) limits (omega (arith, c.requires.some_wire, same)) c.args.tests.now keeps plan good in
    let bound' = rw same at bound in
    rw whole bound'
