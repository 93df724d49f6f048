use Rattle.live_tests.proofs.placed.placed_by.Goals as goal

pub tests-requires-clause-walked : goal.tests-requires-clause-walked
tests-requires-clause-walked c = rw c.deref.ensures.value c.in_ok-wrappers.ensures

pub returns : goal.returns
returns c = record { tests = c.in_ok-tests.ensures; wrappers = c.in_ok-wrappers.ensures }
