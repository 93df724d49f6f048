use Rattle.std.proofs.Common.{refl, arith, inl, inr}
use Rattle.std.proofs.lemmas.Bool.{cases_eq}
use Rattle.std.proofs.lemmas.Option.{slice_get_within}
use Rattle.plan_checker.specs.Clashes.{keeps_apart}
use Rattle.plan_checker.proofs.LeastPairs.{first_of_rows}
use Rattle.plan_checker.proofs.clashes.first_pair.Goals as goal

pub returns-in-Some-clause-found : goal.returns-in-Some-clause-found
returns-in-Some-clause-found c = record {
  cycle_is = refl;
  clash = c.in-Some.ensures.found.clash;
  first = first_of_rows (keeps_apart c.args.parents.now c.args.apart) c.args.placed.now c.loop-first.first c.in-Some.second c.args.cycle c.loop-first.invariant c.in-Some.ensures.found;
}

pub loop-first-preserved : goal.loop-first-preserved
loop-first-preserved c = λ k before. elim (cases_eq k c.loop-first.first) [
  | inl same ↦ rw same c.in_default.ensures.none
  | inr other ↦ c.loop-first.invariant k (omega (arith, before, other))
]

pub returns-clause-none : goal.returns-clause-none
returns-clause-none c = λ i j clash. c.loop-first.invariant i (omega (arith, c.loop-first-test.false, slice_get_within c.args.placed.now i clash.a clash.at)) j clash
