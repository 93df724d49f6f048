use Rattle.std.proofs.Common.{◌≡◌, ◌+◌, drop}
use Rattle.test_data.specs.DataPlaces.{patterns_in}
use Rattle.test_data.specs.Suiting.{wrong_word}
use Rattle.test_data.proofs.misfits.wrong_word.Given as goal

abbrev pub invariant-loop-before : goal.invariant-loop-before
invariant-loop-before l =
    wrong_word l.test l.wanted 1 (patterns_in l.bytes l.patterns) ≡ wrong_word l.test l.wanted (l.before + 1) (patterns_in l.bytes (drop l.before l.patterns))
