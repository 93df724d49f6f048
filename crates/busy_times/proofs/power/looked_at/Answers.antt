use Rattle.std.proofs.Common.{◌≡◌, ◌<◌, inl, inr, length, arith, subst}
use Rattle.std.proofs.lemmas.Bool.{cases_lt}
use Rattle.busy_times.specs.Draws.{StepFits}
use Rattle.busy_times.proofs.FittingSteps.{window_at}
use Rattle.busy_times.proofs.power.looked_at.Goals as goal

pub returns-then-next-start-clause-there : goal.returns-then-next-start-clause-there
returns-then-next-start-clause-there c inside load ended x low high =
    let lt : c.loop-place.place < length c.args.test.now.steps.now = (let to = c.requires.to in omega (arith, inside, to)) in
    let free = c.after_step-next.ensures.fits load ended x low (omega (arith, high, c.step_end-end.ensures.value)) in
    omega (arith, free, c.requires.within c.loop-place.place (0, 0) lt)

pub returns-then-next-start-clause-least : goal.returns-then-next-start-clause-least
returns-then-next-start-clause-least c load ended other later fit =
    let end = c.step_end-end.ensures.value in
    let lt : c.loop-place.place < length c.args.test.now.steps.now = (let to = c.requires.to in omega (arith, c.loop-place-test.true, to)) in
    c.after_step-next.ensures.least load ended other later
    (λ x low high. (let within = window_at load c.args.test.now.limit other c.args.test.now.length c.loop-place.place c.args.test.now.steps.now lt fit x low (omega (arith, end, high)) in omega (arith, within)))

pub loop-place-preserved : goal.loop-place-preserved
loop-place-preserved c =
    let end = c.step_end-end.ensures.value in
    let same = c.if-next-start.false in
    let lt : c.loop-place.place < length c.args.test.now.steps.now = (let to = c.requires.to in omega (arith, c.loop-place-test.true, to)) in
    let small = c.requires.within c.loop-place.place (0, 0) lt in
    record {
      before = λ load ended k from less. elim (cases_lt k c.loop-place.place) [
        | inl earlier ↦ c.loop-place.invariant.before load ended k from earlier
        | inr here ↦
            let place_is : c.loop-place.place ≡ k = omega (arith, here, less) in
            subst (λ n. StepFits load c.args.test.now.limit c.args.start c.args.test.now.length n c.args.test.now.steps.now) place_is
            (λ x low high. (let free = c.after_step-next.ensures.fits load ended x (omega (arith, same, low)) (omega (arith, same, end, high)) in omega (arith, free, small)))
      ];
    }

pub returns-clause-before : goal.returns-clause-before
returns-clause-before c load ended k from less = c.loop-place.invariant.before load ended k from (let over = c.loop-place-test.false in omega (arith, less, over))
