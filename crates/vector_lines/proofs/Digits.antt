-- The digits of the bits that are made from values, in a list.
use Rattle.std.proofs.Common.{◌≡◌, ℕ, ◌+◌, ◌<◌, List, length, get_or, map, ap, ◌∙◌, arith}
use Rattle.std.specs.List.{range_with_len}
use Rattle.std.proofs.lemmas.List.{get_or-map}
use Rattle.std.proofs.lemmas.List.FromFn.{length-range_with_len, get_or-range_with_len}
use Rattle.vector_lines.specs.Made.{has_odd_square}
use Rattle.vector_lines.specs.Marks.{digit}

-- the digit that is made from a value
abbrev pub made_digit : ℕ → ℕ
made_digit v = digit (has_odd_square v)

pub digit_at : (digits : List ℕ) (v d : ℕ) → digits ≡ map made_digit (range_with_len 0 997) → v < 997 → get_or digits v d ≡ made_digit v
digit_at digits v d are h =
    let long = length-range_with_len 0 997 in
    let within : v < length (range_with_len 0 997) = omega arith in
    let own : 0 + v ≡ v = omega arith in
    ap (λ l. get_or l v d) are ∙ get_or-map made_digit (range_with_len 0 997) v 0 d within ∙ ap made_digit (get_or-range_with_len 0 997 v 0 h ∙ own)
