-- Lists of different numbers, and one more number behind them.
use Rattle.std.proofs.Common.{◌≡◌, ℕ, zero, suc, ◌⊎◌, inl, inr, Bool, true, false, ◌||◌, List, [], ◌∷◌, ◌++◌, length, slice_get, Some, nat_eq, refl, sym, ap, ◌∙◌, arith}
use Rattle.std.specs.List.{list_any}
use Rattle.std.proofs.lemmas.Bool.Decides.{nat_tests}
use Rattle.std.proofs.lemmas.Option.{same_Some}
use Rattle.soc_model.specs.SoundChips.{AllDiffer}
use Rattle.std.proofs.lemmas.Bool.{or_right}
use Rattle.common_lemmas.proofs.Tests.{same_number}

-- ---- places

-- a number of the longer list stands in the list, or is the last
old_or_last : (ns : List ℕ) (n p v : ℕ) → slice_get (ns ++ n ∷ []) p ≡ Some v → (slice_get ns p ≡ Some v) ⊎ ((p ≡ length ns) × (n ≡ v))
old_or_last [] n zero v at = inr (refl, same_Some n v at)
old_or_last [] n (suc p) v at = cc
old_or_last (x ∷ ns) n zero v at = inl at
old_or_last (x ∷ ns) n (suc p) v at = elim (old_or_last ns n p v at) [ inl old ↦ inl old | inr last ↦ inr (ap suc last.0, last.1) ]

found_at : (ns : List ℕ) (p n : ℕ) → slice_get ns p ≡ Some n → list_any (nat_eq n) ns ≡ true
found_at [] p n at = cc
found_at (x ∷ ns) zero n at = ap (λ b. b || list_any (nat_eq n) ns) (ap (nat_eq n) (same_Some x n at) ∙ same_number n)
found_at (x ∷ ns) (suc p) n at = or_right (nat_eq n x) (list_any (nat_eq n) ns) (found_at ns p n at)

-- ---- one more number

pub differ-none : AllDiffer []
differ-none p q n here there = cc

-- a number that is not there goes last
pub differ-push : (ns : List ℕ) (n : ℕ) → AllDiffer ns → list_any (nat_eq n) ns ≡ false → AllDiffer (ns ++ n ∷ [])
differ-push ns n differ absent p q v here there = by (old_or_last ns n p v here) (old_or_last ns n q v there)
  where
    twice : (p v : ℕ) → slice_get ns p ≡ Some v → n ≡ v → ⊥
    twice p v at same = let found = found_at ns p n (at ∙ ap Some (sym same)) in cc

    by : (slice_get ns p ≡ Some v) ⊎ ((p ≡ length ns) × (n ≡ v)) → (slice_get ns q ≡ Some v) ⊎ ((q ≡ length ns) × (n ≡ v)) → p ≡ q
    by (inl here) (inl there) = differ p q v here there
    by (inl here) (inr last) = absurd (twice p v here last.1)
    by (inr last) (inl there) = absurd (twice q v there last.1)
    by (inr last) (inr end) = last.0 ∙ sym end.0
