use Rattle.std.proofs.Common.{◌≡◌, ℕ, List, [], ◌∷◌, length, get_or, sym, subst, arith, refl}
use Rattle.busy_times.specs.Draws.{StepsFit}
use Rattle.busy_times.proofs.power.after_power.Goals as goal

one_item : (steps : List (ℕ × ℕ)) (d : ℕ × ℕ) → length steps ≡ 1 → get_or steps 0 d ∷ [] ≡ steps
one_item [] d one = absurd (omega (arith, one))
one_item (s ∷ []) d one = refl
one_item (s ∷ t ∷ steps) d one = absurd (omega (arith, one))

pub after_only-requires-clause-within : goal.after_only-requires-clause-within
after_only-requires-clause-within c = c.requires.within 0 (0, 0) (let one = c.if-steps-eq1.true in omega (arith, one))

pub returns-then-steps-eq1-clause-fits : goal.returns-then-steps-eq1-clause-fits
returns-then-steps-eq1-clause-fits c = λ load ended. subst (StepsFit load c.args.limit c.after_only.result c.args.length) (one_item c.args.steps.now (0, 0) c.if-steps-eq1.true) (c.after_only.ensures.fits load ended)

pub returns-then-steps-eq1-clause-least : goal.returns-then-steps-eq1-clause-least
returns-then-steps-eq1-clause-least c = λ load ended other after fit. c.after_only.ensures.least load ended other after (subst (StepsFit load c.args.limit other c.args.length) (sym (one_item c.args.steps.now (0, 0) c.if-steps-eq1.true)) fit)
