use Rattle.soc_model.specs.SoundChips.{IsSoundChip}
use Rattle.plan_model.specs.Views.{bound_value, why_value}
use Rattle.plan_model.proofs.CertificatesAreBounds.{accepted_bounds}
use Rattle.bound_certificate.specs.Winners.{names_of}
use Rattle.bound_certificate.proofs.ElementaryValues.{elementary-le}
use Rattle.bound_certificate.proofs.NamesInRange.{names_in_chip, numbers_in_range}
use Rattle.std.proofs.Common.{◌≤◌}
use Rattle.bound_certificate.proofs.best.best_bound_with.Goals as goal

pub returns-clause-bound : goal.returns-clause-bound
returns-clause-bound c =
    let some : 1 ≤ c.args.problem.now.limits.wires = rw (← c.problem.view_is) c.problem.invariant.bounds.some_wire in
    accepted_bounds c.args.problem.now.soc c.args.problem.now.limits (bound_value c.in_ok-bound.bound) some c.in_ok-bound.ensures.accepted

pub returns-clause-elementary : goal.returns-clause-elementary
returns-clause-elementary c = λ n value.
    let sound : IsSoundChip c.args.problem.now.soc = rw (← c.problem.view_is) c.problem.invariant.sound in
    elementary-le c.args.problem.now.soc c.args.problem.now.limits c.args.cycles (names_of c.in_ok-chain.chain) (bound_value c.in_ok-bound.bound) n sound c.in_ok-chain.ensures.greatest c.in_ok-bound.ensures.best value

pub returns-clause-names : goal.returns-clause-names
returns-clause-names c = names_in_chip c.args.problem.now.soc c.args.problem.now.limits (bound_value c.in_ok-bound.bound) c.in_ok-bound.ensures.accepted

pub returns-clause-numbers : goal.returns-clause-numbers
returns-clause-numbers c =
    let sound : IsSoundChip c.args.problem.now.soc = rw (← c.problem.view_is) c.problem.invariant.sound in
    numbers_in_range c.args.problem.now.soc (why_value c.in_ok-bound.bound.why) sound (returns-clause-names c)
