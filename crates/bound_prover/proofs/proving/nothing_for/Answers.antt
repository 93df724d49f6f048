use Rattle.std.proofs.Common.{subst}
use Rattle.std.proofs.lemmas.Result.{IfOk-weaker}
use Rattle.plan_model.specs.SoundLimits.{IsSoundLimits}
use Rattle.live_tests.specs.Problems.{ProblemValue}
use Rattle.bound_prover.specs.Proved.{IsPrinted, IsProofText, no_claim}
use Rattle.bound_prover.proofs.Nothing.{nothing_proved}
use Rattle.bound_prover.proofs.proving.nothing_for.Goals as goal

pub returns : goal.returns
returns c = λ cycles nodes some.
    let p = c.args.problem.now in
    let sound : IsSoundLimits p.soc p.limits = subst (λ (v : ProblemValue). IsSoundLimits v.soc v.limits) c.problem.view_is c.problem.invariant.bounds in
    IfOk-weaker c.nothing_text.result (λ text. IsPrinted no_claim text.items) (λ text. IsProofText p.soc p.limits cycles nodes text.items)
    (λ text printed. (no_claim, nothing_proved p.soc p.limits cycles nodes sound some, printed)) c.nothing_text.ensures
