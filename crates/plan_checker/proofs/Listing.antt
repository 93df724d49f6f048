-- What a test's look-ups give: its wrapper and its start.
use Rattle.std.proofs.Common.{◌≡◌, ℕ, suc, ◌+◌, ◌^◌, ◌≤◌, Bool, true, false, eqb, Option, List, [], ◌∷◌, length, map, position, refl, ap, ◌∙◌, sym, arith, inl, inr, eq-eqb, true≢false}
use mathlib.Core.Bool.{beq}
use Rattle.std.specs.List.{position_or_len}
use Rattle.std.proofs.lemmas.Bool.{cases_Bool, and_parts, eqb-true}
use Rattle.soc_model.specs.declared.TestId.{TestId}
use Rattle.soc_model.specs.Chips.{same_test}
use Rattle.soc_model.specs.Modes.{same_mode}
use Rattle.plan_model.specs.Plans.{WrapperValue, of_first, wraps}
use Rattle.plan_model.specs.Rules.{pair_of}
use Rattle.plan_model.proofs.PlannedTests.{wraps_from, same_mode_is}
use Rattle.live_tests.specs.Index.{is_pair}
use Rattle.plan_checker.specs.Listed.{StartEarly}

-- ---- wrappers

beq_is : (a b : Bool) → beq a b ≡ true → a ≡ b
beq_is true true e = refl
beq_is true false e = absurd (true≢false (sym e))
beq_is false true e = absurd (true≢false (sym e))
beq_is false false e = refl

beq_itself : (a : Bool) → beq a a ≡ true
beq_itself true = refl
beq_itself false = refl

pub is_pair_of : (m : ℕ) (scan : Bool) (p : ℕ × Bool) → is_pair m scan p ≡ true → (p.0 ≡ m) × (p.1 ≡ scan)
is_pair_of m scan p h = let a = and_parts (eqb m p.0) (beq scan p.1) h in (sym (eqb-true m p.0 a.0), sym (beq_is scan p.1 a.1))

pub is_pair_itself : (m : ℕ) (scan : Bool) → is_pair m scan (m, scan) ≡ true
is_pair_itself m scan = rw (eq-eqb m m refl, beq_itself scan) refl

pair_of_wrapper : (w : WrapperValue) (m : ℕ) (scan : Bool) → w.«module» ≡ m → w.scan ≡ scan → is_pair m scan (pair_of w) ≡ true
pair_of_wrapper w m scan a b = rw (a, b) (is_pair_itself m scan)

-- a pair is that of a wrapper exactly where the wrapper is of the mode
pair_wraps : (m : ℕ) (scan : Bool) (w : WrapperValue) → is_pair m scan (pair_of w) ≡ wraps m scan w
pair_wraps m scan w = elim (cases_Bool (is_pair m scan (pair_of w))) [
  | inl yes' ↦ let p = is_pair_of m scan (pair_of w) yes' in yes' ∙ sym (wraps_from w m scan p.0 p.1)
  | inr no' ↦ elim (cases_Bool (wraps m scan w)) [
    | inl yes' ↦
        let is = and_parts (eqb w.«module» m) (same_mode w.scan scan) yes' in
        absurd (true≢false (sym (pair_of_wrapper w m scan (eqb-true w.«module» m is.0) (same_mode_is w.scan scan is.1)) ∙ no'))
    | inr no'' ↦ no' ∙ sym no''
  ]
]

length_pairs : (ws : List WrapperValue) → length (map pair_of ws) ≡ length ws
length_pairs [] = refl
length_pairs (w ∷ ws) = ap suc (length_pairs ws)

same_place : (ws : List WrapperValue) (m : ℕ) (scan : Bool) → position_or_len (is_pair m scan) (map pair_of ws) ≡ position_or_len (wraps m scan) ws
same_place [] m scan = refl
same_place (w ∷ ws) m scan = elim (cases_Bool (wraps m scan w)) [
  | inl yes' ↦ rw (pair_wraps m scan w ∙ yes', yes') refl
  | inr no' ↦ rw (pair_wraps m scan w ∙ no', no') (ap (λ v. 1 + v) (same_place ws m scan))
]

pairs_found : (ws : List WrapperValue) (m : ℕ) (scan : Bool) → position (is_pair m scan) (map pair_of ws) ≡ position (wraps m scan) ws
pairs_found ws m scan = rw (same_place ws m scan, length_pairs ws) refl

-- the place of a pair is that of its wrapper
pub wrapper_place : (ws : List WrapperValue) (m : ℕ) (scan : Bool) (o : Option ℕ) (ks : List (ℕ × Bool)) → ks ≡ map pair_of ws → o ≡ position (is_pair m scan) ks → position (wraps m scan) ws ≡ o
wrapper_place ws m scan o ks are found = sym (pairs_found ws m scan) ∙ ap (position (is_pair m scan)) (sym are) ∙ sym found

-- ---- starts

pub start_early : (id : TestId) (starts : List (TestId × ℕ)) → StartEarly starts → of_first (λ (s : TestId × ℕ). same_test s.0 id) (λ s. s.1) 0 starts ≤ 10 ^ 18
start_early id [] h = omega arith
start_early id (s ∷ ss) h = elim (cases_Bool (same_test s.0 id)) [
  | inl yes' ↦ rw yes' (h 0 s refl)
  | inr no' ↦ rw no' (start_early id ss (λ n x at. h (suc n) x at))
]
