-- Operations that are spaced, for all patterns, are at least as many as those of the test.
use Rattle.std.proofs.Common.{◌≡◌, ℕ, zero, suc, ◌+◌, ◌*◌, ◌≤◌, ◌<◌, max, true, false, Some, List, [], ◌∷◌, ◌++◌, length, replicate, refl, ap, ◌∙◌, arith, slice_get}
use Rattle.std.proofs.Math.Nat.{mul-le-mul_right, max-add-min}
use Rattle.plan_model.specs.Operations.{Operation, Setup, Shift, Capture, SelfTest, ops_of}
use Rattle.plan_model.proofs.OperationCounts.{ops_length}
use Rattle.shift_program.specs.declared.Entry.{Entry}
use Rattle.shift_program.specs.Programs.{operations}
use Rattle.shift_program.specs.Faults.{captured}
use Rattle.shift_program.proofs.Blocks.{spaced_shift, spaced_capture, spaced_setup, spaced_self, AreSpaced}
use Rattle.common_lemmas.proofs.Numbers.{product_out}
use Rattle.shift_program.specs.declared.Entry.TheVariants as entry

-- how many operations of each kind there are
abbrev pub shifts_in : List Operation → ℕ
shifts_in [] = 0
shifts_in (Shift ∷ ops) = suc (shifts_in ops)
shifts_in (Capture k ∷ ops) = shifts_in ops
shifts_in (Setup ∷ ops) = shifts_in ops
shifts_in (SelfTest ∷ ops) = shifts_in ops

abbrev pub captures_in : List Operation → ℕ
captures_in [] = 0
captures_in (Shift ∷ ops) = captures_in ops
captures_in (Capture k ∷ ops) = suc (captures_in ops)
captures_in (Setup ∷ ops) = captures_in ops
captures_in (SelfTest ∷ ops) = captures_in ops

abbrev pub rests_in : List Operation → ℕ
rests_in [] = 0
rests_in (Shift ∷ ops) = rests_in ops
rests_in (Capture k ∷ ops) = rests_in ops
rests_in (Setup ∷ ops) = suc (rests_in ops)
rests_in (SelfTest ∷ ops) = rests_in ops

all_kinds : (ops : List Operation) → rests_in ops + shifts_in ops + captures_in ops ≤ length ops
all_kinds [] = omega arith
all_kinds (Shift ∷ ops) = omega (arith, all_kinds ops)
all_kinds (Capture k ∷ ops) = omega (arith, all_kinds ops)
all_kinds (Setup ∷ ops) = omega (arith, all_kinds ops)
all_kinds (SelfTest ∷ ops) = omega (arith, all_kinds ops)

-- operations that begin with `s` at rest have at least `s` at rest
pub first_rests : (ops : List Operation) (s : ℕ) → ((n : ℕ) → n < s → slice_get ops n ≡ Some Setup) → s ≤ rests_in ops
first_rests ops zero rests = omega arith
first_rests [] (suc s) rests = let e = rests 0 (omega arith) in absurd cc
first_rests (Shift ∷ ops) (suc s) rests = let e = rests 0 (omega arith) in absurd cc
first_rests (Capture k ∷ ops) (suc s) rests = let e = rests 0 (omega arith) in absurd cc
first_rests (Setup ∷ ops) (suc s) rests = let ih = first_rests ops s (λ n less. rests (suc n) (omega arith)) in omega arith
first_rests (SelfTest ∷ ops) (suc s) rests = let e = rests 0 (omega arith) in absurd cc

-- ---- Shifts

more_product : (c m : ℕ) → suc c * m ≡ c * m + m
more_product c m = omega arith

module _ (si so : ℕ) where
  -- behind a capture
  after_capture : (n : ℕ) (ops : List Operation) → AreSpaced si so true n ops → captures_in ops * max si so + so ≤ n + shifts_in ops
  after_capture n [] s = let here = s.end refl in omega arith
  after_capture n (Shift ∷ ops) s = let ih = after_capture (suc n) ops (spaced_shift si so true n ops s) in omega arith
  after_capture n (Capture k ∷ ops) s =
      let ih = after_capture 0 ops (spaced_capture si so true n k ops s) in
      let loads : si ≤ n = s.loads 0 k refl in
      let unloads : so ≤ n = s.unloads 0 k refl refl in
      omega (arith, more_product (captures_in ops) (max si so))
  after_capture n (Setup ∷ ops) s = after_capture n ops (spaced_setup si so true n ops s)
  after_capture n (SelfTest ∷ ops) s = after_capture n ops (spaced_self si so true n ops s)

  -- from the beginning on
  enough_shifts : (n c : ℕ) (ops : List Operation) → AreSpaced si so false n ops → captures_in ops ≡ suc c → si + c * max si so + so ≤ n + shifts_in ops
  enough_shifts n c [] s e = absurd (omega arith)
  enough_shifts n c (Shift ∷ ops) s e = let ih = enough_shifts (suc n) c ops (spaced_shift si so false n ops s) e in omega arith
  enough_shifts n c (Capture k ∷ ops) s e =
      let rest = after_capture 0 ops (spaced_capture si so false n k ops s) in
      let loads : si ≤ n = s.loads 0 k refl in
      let same : captures_in ops ≡ c = omega arith in
      let product = ap (λ v. v * max si so) same in
      omega arith
  enough_shifts n c (Setup ∷ ops) s e = enough_shifts n c ops (spaced_setup si so false n ops s) e
  enough_shifts n c (SelfTest ∷ ops) s e = enough_shifts n c ops (spaced_self si so false n ops s) e

-- ---- together

one_less : (n : ℕ) → 1 ≤ n → (c : ℕ) × (n ≡ suc c)
one_less zero h = absurd (omega arith)
one_less (suc c) h = (c, refl)

pub long_enough : (setup si so p : ℕ) (ops : List Operation) → 1 ≤ p → ((n : ℕ) → n < setup → slice_get ops n ≡ Some Setup) → p ≤ captures_in ops →
    AreSpaced si so false 0 ops → length (ops_of setup si so p) ≤ length ops
long_enough setup si so zero ops live rests captures s = absurd (omega arith)
long_enough setup si so (suc e) ops live rests captures s =
    let c = one_less (captures_in ops) (omega arith) in
    let fewer : e ≤ c.0 = omega arith in
    let product = mul-le-mul_right (max si so) fewer in
    let shifts = enough_shifts si so 0 c.0 ops s c.1 in
    omega (arith, ops_length setup si so (suc e) live, product_out (max si so) e, max-add-min si so, first_rests ops setup rests, all_kinds ops)

-- ---- captures of entries

skip_rests : (n : ℕ) (ops : List Operation) → captures_in (replicate n Setup ++ ops) ≡ captures_in ops
skip_rests zero ops = refl
skip_rests (suc n) ops = skip_rests n ops

skip_shifts : (n : ℕ) (ops : List Operation) → captures_in (replicate n Shift ++ ops) ≡ captures_in ops
skip_shifts zero ops = refl
skip_shifts (suc n) ops = skip_shifts n ops

pub captures_of : (es : List Entry) → captures_in (operations es) ≡ length (captured es)
captures_of [] = refl
captures_of (entry.Rest c ∷ es) = skip_rests c (operations es) ∙ captures_of es
captures_of (entry.Shift c ∷ es) = skip_shifts c (operations es) ∙ captures_of es
captures_of (entry.Capture k ∷ es) = ap suc (captures_of es)
