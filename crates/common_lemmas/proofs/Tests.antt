-- Tests of numbers and of truth values.
use Rattle.std.proofs.Common.{if◌then◌else◌, ◌≡◌, Bool, true, false, refl, ℕ, ◌<◌, nat_lt, arith, ◌≤◌, nat_le, cond, not, ◌||◌, nat_eq, ◌⊎◌, inl, inr, sym, ◌∙◌}
use Rattle.std.specs.Prelude.{◌&&◌, nat_le, ◌||◌}
use Rattle.std.proofs.lemmas.Bool.Decides.{nat_tests}
use Rattle.std.proofs.lemmas.Bool.{cases_eq, eq-eqb, ne_eqb}

pub and_false : (b : Bool) → (b && false) ≡ false
and_false true = refl
and_false false = refl

-- a test says what it tests
pub less_from_true : (a b : ℕ) → nat_lt a b ≡ true → a < b
less_from_true a b e = grind (arith, nat_tests)

-- a test passes
pub le_true : (a b : ℕ) → a ≤ b → nat_le a b ≡ true
le_true a b h = grind arith

pub if_le : (b : Bool) (x y : ℕ) → (b ≡ true → x ≤ y) → (if b then x else 0) ≤ (if b then y else 0)
if_le true x y h = h refl
if_le false x y h = omega arith

pub one_at : (b : Bool) → b ≡ true → cond {A = ℕ} b 1 0 ≡ 1
one_at b yes' = rw yes' refl

pub none_at : (b : Bool) → b ≡ false → cond {A = ℕ} b 1 0 ≡ 0
none_at b no' = rw no' refl

-- what is not
pub not_false : (b : Bool) → not b ≡ false → b ≡ true
not_false true e = refl
not_false false e = cc

pub not_true : (b : Bool) → not b ≡ true → b ≡ false
not_true true e = cc
not_true false e = refl

pub or_comm : (p q : Bool) → (p || q) ≡ (q || p)
or_comm true true = refl
or_comm true false = refl
or_comm false true = refl
or_comm false false = refl

pub or_false_right : (p : Bool) → (p || false) ≡ p
or_false_right true = refl
or_false_right false = refl

pub same_number : (n : ℕ) → nat_eq n n ≡ true
same_number n = grind (arith, nat_tests)

pub lt_false : (a b : ℕ) → b ≤ a → nat_lt a b ≡ false
lt_false a b e = grind (arith, nat_tests)

-- one of two tests
pub or_cases : (a b : Bool) → (a || b) ≡ true → (a ≡ true) ⊎ (b ≡ true)
or_cases true b e = inl refl
or_cases false b e = inr e

pub le_from_true : (a b : ℕ) → nat_le a b ≡ true → a ≤ b
le_from_true a b e = grind (arith, nat_tests)

pub false_true : (b : Bool) → b ≡ false → b ≡ true → ⊥
false_true b e f = cc

pub eq_turned : (i j : ℕ) → nat_eq i j ≡ nat_eq j i
eq_turned i j = elim (cases_eq i j) [
  | inl same ↦ eq-eqb i j same ∙ sym (eq-eqb j i (sym same))
  | inr apart ↦ ne_eqb i j apart ∙ sym (ne_eqb j i (λ e. apart (sym e)))
]

-- both tests
pub both_true : (x y : Bool) → (x && y) ≡ true → (x ≡ true) × (y ≡ true)
both_true true y h = (refl, h)
both_true false y h = absurd cc

pub or_assoc : (a b d : Bool) → (a || (b || d)) ≡ ((a || b) || d)
or_assoc true b d = refl
or_assoc false b d = refl
