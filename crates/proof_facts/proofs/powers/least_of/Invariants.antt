use Rattle.std.proofs.Common.{◌≡◌, ◌∷◌, map, take, get_or}
use Rattle.plan_model.specs.Plans.{smallest}
use Rattle.proof_facts.proofs.Smallest.{power}
use Rattle.proof_facts.proofs.powers.least_of.Given as goal

abbrev pub invariant-loop-power : goal.invariant-loop-power
invariant-loop-power l = l.least ≡ smallest ((get_or l.steps 0 (0, 0)).1 ∷ map power (take l.power-index l.steps))
