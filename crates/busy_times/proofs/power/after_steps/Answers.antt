use Rattle.std.proofs.Common.{◌<◌, inl, inr, length, arith, subst}
use Rattle.std.proofs.lemmas.Bool.{cases_lt}
use Rattle.busy_times.specs.Draws.{StepFits}
use Rattle.busy_times.proofs.FittingSteps.{steps_fit_all}
use Rattle.busy_times.proofs.power.after_steps.Goals as goal

pub starts-preserved-then-behind-steps : goal.starts-preserved-then-behind-steps
starts-preserved-then-behind-steps c =
    let from = c.starts.invariant.from in
    record {
      at = omega (arith, c.if-behind-steps.true);
      from = omega (arith, from, c.looked_at-behind.ensures.from);
      most = c.looked_at-behind.ensures.most;
      here = c.looked_at-behind.ensures.there;
      least = (λ load ended other le fit. c.looked_at-behind.ensures.least load ended other (c.starts.invariant.least load ended other le fit) fit);
    }

pub returns-then-before-at-clause-fits : goal.returns-then-before-at-clause-fits
returns-then-before-at-clause-fits c load ended =
    steps_fit_all load c.args.limit c.starts.found c.args.length (length c.args.steps.now) 0 c.args.steps.now (omega arith) (λ k low lt. elim (cases_lt k c.starts.at) [
      | inl before ↦ c.looked_at-before.ensures.before load ended k low (omega (arith, before, c.if-before-at.true))
      | inr from ↦ elim (cases_lt c.starts.at k) [
        | inl behind ↦ c.looked_at-behind.ensures.before load ended k (omega (arith, behind)) (omega (arith, lt, c.if-behind-steps.false))
        | inr here ↦ subst (λ n. StepFits load c.args.limit c.starts.found c.args.length n c.args.steps.now) (omega (arith, from, here)) (c.starts.invariant.here (omega (arith, lt, from, here)) load ended)
      ]
    ])

pub starts-preserved : goal.starts-preserved
starts-preserved c =
    let from = c.starts.invariant.from in
    let most = c.looked_at-before.ensures.place (omega arith) in
    let other = c.if-before-at.false in
    let moved : c.looked_at-before.result.place < c.starts.at = omega (arith, most, other) in
    record {
      at = omega (arith, c.starts.invariant.at, most);
      from = omega (arith, from, c.looked_at-before.ensures.from);
      most = c.looked_at-before.ensures.most;
      here = λ _. c.looked_at-before.ensures.there moved;
      least = (λ load ended other' le fit. c.looked_at-before.ensures.least load ended other' (c.starts.invariant.least load ended other' le fit) fit);
    }
