use Rattle.std.proofs.Common.{arith, length-drop}
use Rattle.outside.proofs.WordLemmas.{one_space}
use Rattle.outside.proofs.words.gap_before_word.Goals as goal

pub returns-then-is_behind_space : goal.returns-then-is_behind_space
returns-then-is_behind_space c =
    let one = one_space c.args.first c.args.text.now (c.is_behind_space.ensures c.if-is_behind_space.true) in
    record { within = one.some; small = omega (arith, length-drop 1 c.args.text.now); words = one.words; no_more = λ end. absurd (one.no_end end) }
