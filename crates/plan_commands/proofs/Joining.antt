-- Texts that are appended one joined_before the other.
use Rattle.std.proofs.Common.{◌≡◌, ℕ, List, ◌++◌, ap, ◌∙◌}
use Rattle.common_lemmas.proofs.Lists.{joined_before}

-- what a text is that was put
pub put : (t' t x y : List ℕ) → t' ≡ t ++ x → x ≡ y → t' ≡ t ++ y
put t' t x y added is = added ∙ ap (λ l. t ++ l) is

-- four texts
pub four : (t0 t1 t2 t3 t4 a b c d : List ℕ) → t1 ≡ t0 ++ a → t2 ≡ t1 ++ b → t3 ≡ t2 ++ c → t4 ≡ t3 ++ d → t4 ≡ t0 ++ (a ++ b ++ c ++ d)
four t0 t1 t2 t3 t4 a b c d first second third fourth = joined_before t4 t3 t0 (a ++ b ++ c) d fourth (joined_before t3 t2 t0 (a ++ b) c third (joined_before t2 t1 t0 a b second first))
