use Rattle.std.proofs.Common.{◌≡◌, ◌<◌, ◌^◌, drop}
use Rattle.std.specs.Str.{all_ascii_digits}
use Rattle.outside.specs.Decimal.{value_after}
use Rattle.outside.proofs.numbers.short_number.Given as goal

abbrev pub invariant-loop-b : goal.invariant-loop-b
invariant-loop-b l =
    (value_after l.n (drop l.b-index l.word) ≡ value_after 0 l.word)
    × (all_ascii_digits l.word ≡ all_ascii_digits (drop l.b-index l.word)) × (l.n < 10 ^ l.b-index)
