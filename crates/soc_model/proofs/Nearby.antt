-- A number that is looked for where it is likely to stand.
use Rattle.std.proofs.Common.{◌≡◌, ℕ, zero, suc, List, [], ◌∷◌, map, Bool, true, false, ◌||◌, nat_eq, position, slice_get, Some, option_map, refl, sym, ◌∙◌, ap, true≢false, arith}
use Rattle.std.specs.List.{list_any, IsDistinct, AllByRecursion}
use Rattle.std.proofs.lemmas.Map.Keys.{IsDistinct-head, IsDistinct-tail}
use Rattle.std.proofs.lemmas.Option.{same_Some, slice_get-map, slice_get_within}
use Rattle.std.proofs.lemmas.Grind.{common_steps}
use Rattle.soc_model.specs.declared.Module.{Module}
use Rattle.soc_model.specs.SoundChips.{AllDiffer}
use Rattle.soc_model.proofs.Entries.{key_of}
use Rattle.soc_model.proofs.Places.{position-from_slice_get}
use Rattle.common_lemmas.proofs.Tests.{same_number}

nothing : (n p : ℕ) → slice_get {X = ℕ} [] p ≡ Some n → ⊥
nothing n p at = omega (arith, slice_get_within {A = ℕ} [] p n at)

-- a number that no later one is
not_later : (x n : ℕ) (xs : List ℕ) (q : ℕ) → AllByRecursion (λ y. nat_eq x y ≡ false) xs → slice_get xs q ≡ Some n → x ≡ n → ⊥
not_later x n [] q others at same = nothing n q at
not_later x n (y ∷ xs) zero others at same =
    true≢false (sym (same_number x) ∙ ap (nat_eq x) (same ∙ sym (same_Some y n at)) ∙ others.0)
not_later x n (y ∷ xs) (suc q) others at same = not_later x n xs q others.1 at same

differ : (ns : List ℕ) (p q n : ℕ) → IsDistinct nat_eq ns → slice_get ns p ≡ Some n → slice_get ns q ≡ Some n → p ≡ q
differ [] p q n distinct at there = absurd (nothing n p at)
differ (x ∷ xs) zero zero n distinct at there = refl
differ (x ∷ xs) zero (suc q) n distinct at there = absurd (not_later x n xs q (IsDistinct-head nat_eq x xs distinct) there (same_Some x n at))
differ (x ∷ xs) (suc p) zero n distinct at there = absurd (not_later x n xs p (IsDistinct-head nat_eq x xs distinct) at (same_Some x n there))
differ (x ∷ xs) (suc p) (suc q) n distinct at there = ap suc (differ xs p q n (IsDistinct-tail nat_eq x xs distinct) at there)

-- the keys of a map differ
pub keys_differ : (ns : List ℕ) → IsDistinct nat_eq ns → AllDiffer ns
keys_differ ns distinct = λ p q n at there. differ ns p q n distinct at there

-- a number is found where it stands
pub found_there : (ns : List ℕ) (n p : ℕ) → IsDistinct nat_eq ns → slice_get ns p ≡ Some n → Some p ≡ position (nat_eq n) ns
found_there ns n p distinct at = sym (position-from_slice_get ns n p (keys_differ ns distinct) at)

-- and is one of the numbers
pub is_there : (ns : List ℕ) (n p : ℕ) → slice_get ns p ≡ Some n → true ≡ list_any (nat_eq n) ns
is_there [] n p at = absurd (nothing n p at)
is_there (x ∷ ns) n zero at = sym (ap (λ b. b || list_any (nat_eq n) ns) (ap (nat_eq n) (same_Some x n at) ∙ same_number n))
is_there (x ∷ ns) n (suc p) at = or_true (nat_eq n x) (list_any (nat_eq n) ns) (is_there ns n p at)
  where
    or_true : (a b : Bool) → true ≡ b → true ≡ (a || b)
    or_true true b e = refl
    or_true false b e = e

-- ---- in a chip's map

entry_key : (es : List (ℕ × Module)) (p n found : ℕ) (m : Module) → Some (found, m) ≡ slice_get es p → n ≡ found → slice_get (map key_of es) p ≡ Some n
entry_key es p n found m at same = slice_get-map key_of es p ∙ ap (option_map key_of) (sym at) ∙ ap Some (sym same)

pub module_there : (es : List (ℕ × Module)) (p n found : ℕ) (m : Module) → Some (found, m) ≡ slice_get es p → n ≡ found → true ≡ list_any (nat_eq n) (map key_of es)
module_there es p n found m at same = is_there (map key_of es) n p (entry_key es p n found m at same)

pub module_found : (es : List (ℕ × Module)) (p n found : ℕ) (m : Module) → IsDistinct nat_eq (map key_of es) → Some (found, m) ≡ slice_get es p → n ≡ found → Some p ≡ position (nat_eq n) (map key_of es)
module_found es p n found m distinct at same = found_there (map key_of es) n p distinct (entry_key es p n found m at same)
