-- How long the mark of a number is.
use Rattle.std.proofs.Common.{ℕ, ◌^◌, ◌<◌, ◌≤◌, length, codes, decimal, arith}
use Rattle.std.proofs.lemmas.List.{length-append}
use Rattle.std.proofs.lemmas.Fmt.{length-decimal-le}
use Rattle.tester_forms.specs.VerilogText.{size_mark}

-- the digits of a small number, and two characters
pub mark_short : (count : ℕ) → count < 10 ^ 4 → length (size_mark count) ≤ 6
mark_short count few =
    let digits : length (decimal count) ≤ 4 = length-decimal-le 4 count (omega arith) few (omega (arith, few)) in
    rw (length-append (decimal count) (codes "'b")) (omega (arith, digits))
