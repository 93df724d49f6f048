use Rattle.fail_locate.proofs.locator.Locator.new.Goals as goal

pub with_tests-requires-clause-wired : goal.with_tests-requires-clause-wired
with_tests-requires-clause-wired c = rw (c.new-placed.ensures.chip, c.new-placed.ensures.plan) at c.in_ok-tests.ensures
