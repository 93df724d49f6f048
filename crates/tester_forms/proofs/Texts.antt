-- Texts that are appended one joined_before the other, and those that stand where there is something that they speak of.
use Rattle.std.proofs.Common.{◌≡◌, ℕ, List, ◌++◌, ap, ◌∙◌, append_assoc, arith}
use Rattle.std.proofs.lemmas.Bool.Decides.{nat_tests}
use Rattle.tester_forms.specs.Pieces.{where_some}
use Rattle.common_lemmas.proofs.Lists.{joined_before}

pub where_some-some : (n : ℕ) (text : List ℕ) → (n ≡ 0 → ⊥) → where_some n text ≡ text
where_some-some n text some = grind (arith, nat_tests)
