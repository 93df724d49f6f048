use Rattle.plan_text.specs.Grammar.{AreSmallStarts}
use Rattle.plan_improver.proofs.candidate.starts_of.Given as goal

abbrev pub invariant-loop-test : goal.invariant-loop-test
invariant-loop-test l = AreSmallStarts l.starts.items
