use Rattle.live_tests.proofs.wrapped.ModeWrappers.found.Goals as goal

pub returns : goal.returns
returns c = λ plan are. (c.wrapper_at.ensures plan are, c.wrapper_at-2.ensures plan are)
