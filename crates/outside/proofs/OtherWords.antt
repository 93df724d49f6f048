-- A word that begins with a digit, or with another byte before the letters, is no word that begins with a letter.
use Rattle.std.proofs.Common.{◌≡◌, ℕ, ◌<◌, List, [], ◌∷◌, Bool, true, false, arith}
use Rattle.std.specs.Prelude.{nat_le}
use Rattle.std.specs.Char.{to_ascii_lowercase, is_ascii_digit}
use Rattle.std.proofs.lemmas.Grind.{common_steps}
use Rattle.outside.specs.Words.{same_letters}

-- the first byte in lower case is no less than `a`
abbrev pub begins_lower : List ℕ → Bool
begins_lower [] = false
begins_lower (b ∷ bs) = nat_le 97 (to_ascii_lowercase b)

low_head : (b x : ℕ) (bs xs : List ℕ) → b < 65 → nat_le 97 (to_ascii_lowercase x) ≡ true → same_letters (b ∷ bs) (x ∷ xs) ≡ false
low_head b x bs xs low high = grind (arith, common_steps)

pub low_other : (b : ℕ) (bs y : List ℕ) → b < 65 → begins_lower y ≡ true → same_letters (b ∷ bs) y ≡ false
low_other b bs [] low high = cc
low_other b bs (x ∷ xs) low high = low_head b x bs xs low high

pub digit_low : (b : ℕ) → is_ascii_digit b ≡ true → b < 65
digit_low b e = grind (arith, common_steps)
