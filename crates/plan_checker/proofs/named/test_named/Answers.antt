use Rattle.std.proofs.Common.{sym, ◌∙◌, arith}
use Rattle.std.proofs.lemmas.Option.{slice_get_within}
use Rattle.live_tests.specs.declared.placed.PlacedTest.{PlacedTest}
use Rattle.plan_checker.specs.Named.{names_of}
use Rattle.plan_checker.proofs.Finding.{some_same}
use Rattle.plan_checker.proofs.Rooms.{length_values}
use Rattle.plan_checker.proofs.named.test_named.Goals as goal
use Rattle.common_lemmas.proofs.Lists.{map_at}

pub test_at-requires : goal.test_at-requires
test_at-requires c = omega (arith, length_values (λ (j : PlacedTest). j.id) c.args.placed.now, slice_get_within (names_of c.args.placed.now) c.in-Some.place c.args.id (rw c.requires at c.in-Some.ensures.found))

pub returns-in-Some-clause-found : goal.returns-in-Some-clause-found
returns-in-Some-clause-found c =
    let named = rw c.requires at c.in-Some.ensures.found in
    (c.in-Some.place, c.test_at.ensures, some_same (sym (map_at (λ (j : PlacedTest). j.id) c.args.placed.now c.in-Some.place c.test_at.result c.test_at.ensures) ∙ named))

pub returns-in-None-clause-none : goal.returns-in-None-clause-none
returns-in-None-clause-none c = λ p j at same. (rw c.requires at c.in-None.ensures.none) p (rw same at (map_at (λ (j : PlacedTest). j.id) c.args.placed.now p j at))
