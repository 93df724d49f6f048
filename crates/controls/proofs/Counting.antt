-- How many Captures come before a cycle of a test.
use Rattle.std.proofs.Common.{◌≡◌, ℕ, zero, suc, ◌+◌, ◌-◌, ◌*◌, ◌≤◌, ◌<◌, ◌⊎◌, Bool, true, false, cond, max, Option, None, Some, refl, ap, sym, ◌∙◌, arith, inl, inr, add-zero, slice_get}
use Rattle.std.proofs.lemmas.Bool.{cases_lt, false_from_ne_true}
use Rattle.plan_model.specs.Operations.{Operation, Setup, Shift, Capture, SelfTest, ops_of}
use Rattle.plan_model.proofs.OperationBlocks.{IsCaptured, capture_at, capture_found}
use Rattle.controls.specs.Controls.{is_capture}
use Rattle.common_lemmas.proofs.Tests.{none_at, one_at}

-- how many numbers below one pass
pub count_below : (ℕ → Bool) → ℕ → ℕ
count_below p zero = 0
count_below p (suc n) = count_below p n + cond (p n) 1 0

pub count_below-zero : (p : ℕ → Bool) → count_below p 0 ≡ 0
unfolding count_below
count_below-zero p = refl

pub count_below-suc : (p : ℕ → Bool) (n : ℕ) → count_below p (suc n) ≡ count_below p n + cond (p n) 1 0
unfolding count_below
count_below-suc p n = refl

-- none passes in a stretch
none_in : (p : ℕ → Bool) (a m : ℕ) → ((j : ℕ) → a ≤ j → j < a + m → p j ≡ false) → count_below p (a + m) ≡ count_below p a
none_in p a zero none = ap (count_below p) (add-zero a)
none_in p a (suc m) none =
    let next : a + suc m ≡ suc (a + m) = omega arith in
    ap (count_below p) next ∙ count_below-suc p (a + m) ∙ ap (λ n. count_below p (a + m) + n) (none_at (p (a + m)) (none (a + m) (omega arith) (omega arith)))
    ∙ add-zero (count_below p (a + m)) ∙ none_in p a m (λ j from before. none j from (omega arith))

-- counted from a later number on
pub counted_from : (p q : ℕ → Bool) (start n : ℕ) → ((j : ℕ) → j < start → p j ≡ false) → ((j : ℕ) → p (start + j) ≡ q j) → count_below p (start + n) ≡ count_below q n
counted_from p q start zero before same =
    let none : count_below p (0 + start) ≡ count_below p 0 = none_in p 0 start (λ j from less. before j (omega arith)) in
    let here : start + 0 ≡ 0 + start = omega arith in
    ap (count_below p) here ∙ none ∙ count_below-zero p ∙ sym (count_below-zero q)
counted_from p q start (suc n) before same =
    let next : start + suc n ≡ suc (start + n) = omega arith in
    ap (count_below p) next ∙ count_below-suc p (start + n) ∙ ap (λ k. k + cond (p (start + n)) 1 0) (counted_from p q start n before same)
    ∙ ap (λ b. count_below q n + cond b 1 0) (same n) ∙ sym (count_below-suc q n)

-- ---- the Captures of a test over the wires

the_capture : (o : Option Operation) → is_capture o ≡ true → (k : ℕ) × (o ≡ Some (Capture k))
the_capture None e = cc
the_capture (Some Setup) e = cc
the_capture (Some Shift) e = cc
the_capture (Some (Capture k)) e = (k, refl)
the_capture (Some SelfTest) e = cc

abbrev captures : (setup si so p j : ℕ) → Bool
captures setup si so p j = is_capture (slice_get (ops_of setup si so p) j)

abbrev place : (setup si so d : ℕ) → ℕ
place setup si so d = setup + si + d * (1 + max si so)

found_at : (setup si so p j : ℕ) → captures setup si so p j ≡ true → (k : ℕ) × (1 ≤ k) × (k ≤ p) × (j ≡ place setup si so (k - 1))
found_at setup si so p j e =
    let k = the_capture (slice_get (ops_of setup si so p) j) e in
    let f : IsCaptured setup si so p j k.0 = capture_found setup si so p j k.0 k.1 in
    (k.0, f.first, f.last, f.place)

times-le : (a b w : ℕ) → a ≤ b → a * w ≤ b * w
times-le a b w h =
    let split : b ≡ a + (b - a) = omega arith in
    let wide : b * w ≡ (a + (b - a)) * w = ap (λ v. v * w) split in
    omega arith

none_first : (setup si so p j : ℕ) → j < setup + si → captures setup si so p j ≡ false
none_first setup si so p j early = false_from_ne_true (captures setup si so p j) (λ e. let f = found_at setup si so p j e in let there = f.3 in absurd (omega (arith, early, there)))

none_between : (setup si so p d j : ℕ) → place setup si so d < j → j < place setup si so (suc d) → captures setup si so p j ≡ false
none_between setup si so p d j after before = false_from_ne_true (captures setup si so p j) (λ e. wrong (found_at setup si so p j e))
  where
    wrong : (k : ℕ) × (1 ≤ k) × (k ≤ p) × (j ≡ place setup si so (k - 1)) → ⊥
    wrong f = by (cases_lt d (f.0 - 1))
      where
        there : j ≡ place setup si so (f.0 - 1)
        there = f.3

        by : (d < f.0 - 1) ⊎ (f.0 - 1 ≤ d) → ⊥
        by (inl more) = let far = times-le (suc d) (f.0 - 1) (1 + max si so) (omega arith) in omega (arith, far, there, before)
        by (inr less) = let near = times-le (f.0 - 1) d (1 + max si so) less in omega (arith, near, there, after)

here : (setup si so p d : ℕ) → d < p → captures setup si so p (place setup si so d) ≡ true
here setup si so p d within =
    let one_less : suc d - 1 ≡ d = omega arith in
    let at = capture_at setup si so p (suc d) (omega arith) (omega arith) in
    let at' = rw one_less at at in
    ap is_capture at'

count_at : (setup si so p d : ℕ) → d < p → count_below (captures setup si so p) (place setup si so d) ≡ d
count_at setup si so p zero within =
    let first : place setup si so 0 ≡ 0 + (setup + si) = omega arith in
    ap (count_below (captures setup si so p)) first ∙ none_in (captures setup si so p) 0 (setup + si) (λ j from less. none_first setup si so p j (omega arith)) ∙ count_below-zero (captures setup si so p)
count_at setup si so p (suc d) within =
    let next : place setup si so (suc d) ≡ suc (place setup si so d) + max si so = omega arith in
    ap (count_below (captures setup si so p)) next
    ∙ none_in (captures setup si so p) (suc (place setup si so d)) (max si so) (λ j from less. none_between setup si so p d j (omega arith) (omega arith))
    ∙ count_below-suc (captures setup si so p) (place setup si so d)
    ∙ ap (λ n. n + cond (captures setup si so p (place setup si so d)) 1 0) (count_at setup si so p d (omega arith))
    ∙ ap (λ n. d + n) (one_at (captures setup si so p (place setup si so d)) (here setup si so p d (omega arith)))
    ∙ more d
  where
    more : (d : ℕ) → d + 1 ≡ suc d
    more d = omega arith

-- Capture `k` comes behind `k - 1` others
pub counted : (setup si so p n k : ℕ) → slice_get (ops_of setup si so p) n ≡ Some (Capture k) → k ≡ suc (count_below (λ j. is_capture (slice_get (ops_of setup si so p) j)) n)
counted setup si so p n k at =
    let f : IsCaptured setup si so p n k = capture_found setup si so p n k at in
    let first : 1 ≤ k = f.first in
    let last : k ≤ p = f.last in
    let count : count_below (captures setup si so p) n ≡ k - 1 = ap (count_below (captures setup si so p)) f.place ∙ count_at setup si so p (k - 1) (omega arith) in
    omega arith
