-- What is left of a test's operations at each of them, by division.
use Rattle.std.proofs.Common.{◌≡◌, ℕ, zero, suc, ◌+◌, ◌-◌, ◌*◌, ◌/◌, ◌%◌, ◌≤◌, ◌<◌, ◌⊎◌, min, max, true, false, cond, Some, None, List, [], ◌∷◌, ◌++◌, length, replicate, drop, ltb, refl, ap, ◌∙◌, sym, subst, arith, inl, inr, append_assoc, Bool, Option}
use Rattle.std.specs.Prelude.{slice_get, option_map}
use Rattle.std.proofs.lemmas.Nat.{mod-mul-add, mod_below}
use Rattle.std.proofs.Math.Nat.{mod-add-div}
use Rattle.std.proofs.lemmas.Option.{same_Some}
use Rattle.std.proofs.lemmas.Bool.{lt-ltb, le-ltb, cases_lt}
use Rattle.plan_model.specs.Cells.{Cell}
use Rattle.plan_model.specs.Operations.{Operation, Setup, Shift, Capture, ahead, ops_of}
use Rattle.plan_model.specs.Runs.{wanted}
use Rattle.plan_model.proofs.OperationBlocks.{captures, capture_place, capture_at, capture_found, IsCaptured}
use Rattle.plan_model.proofs.OperationCounts.{ops_length}
use Rattle.plan_model.proofs.ChainShifts.{at_head, ahead_is}
use Rattle.plan_model.specs.Moments.{IsMoment, phase_ops, wanted_by, near_capture}
use Rattle.plan_model.specs.declared.moments.Phases.{Phases}
use Rattle.plan_model.specs.declared.moments.NearCapture.{NearCapture}
use Rattle.plan_model.specs.declared.moments.Moment.TheVariants as moment
use Rattle.common_lemmas.proofs.Numbers.{same_block}

ops_split : (setup si so p : ℕ) → ops_of setup si so p ≡ replicate setup Setup ++ (replicate si Shift ++ captures (max si so) so p 1 p)
unfolding ops_of
ops_split setup si so p = append_assoc (replicate setup Setup) (replicate si Shift) (captures (max si so) so p 1 p)

-- without the first `n` of `s` replicas
drop-replicate : (n s : ℕ) (x : Operation) (rest : List Operation) → n ≤ s → drop n (replicate s x ++ rest) ≡ replicate (s - n) x ++ rest
drop-replicate zero s x rest h = let e : s - 0 ≡ s = omega arith in rw e refl
drop-replicate (suc n) zero x rest h = absurd (omega arith)
drop-replicate (suc n) (suc s) x rest h = let e : suc s - suc n ≡ s - n = omega arith in rw e (drop-replicate n s x rest (omega arith))

-- behind all of them
drop-past : (s n : ℕ) (x : Operation) (rest : List Operation) → drop (s + n) (replicate s x ++ rest) ≡ drop n rest
drop-past zero n x rest = let e : 0 + n ≡ n = omega arith in rw e refl
drop-past (suc s) n x rest = let e : suc s + n ≡ suc (s + n) = omega arith in rw e (drop-past s n x rest)

-- ---- the blocks

-- what stands from a capture on
block_of : (b l p k m : ℕ) → captures b l p k (suc m) ≡ Capture k ∷ (replicate (cond (ltb k p) b l) Shift ++ captures b l p (k + 1) m)
block_of b l p k m = refl

-- `d` blocks later
blocks_on : (b l p k m d r : ℕ) → k + m ≡ suc p → d < m → drop (d * (1 + b) + r) (captures b l p k m) ≡ drop r (captures b l p (k + d) (m - d))
blocks_on b l p k zero d r e h = absurd (omega arith)
blocks_on b l p k (suc m) zero r e h =
    let a : 0 * (1 + b) + r ≡ r = omega arith in
    let k' : k + 0 ≡ k = omega arith in
    let m' : suc m - 0 ≡ suc m = omega arith in
    rw (a, k', m') refl
blocks_on b l p k (suc m) (suc d) r e h =
    let more : ltb k p ≡ true = lt-ltb k p (omega arith) in
    let a : suc d * (1 + b) + r ≡ suc (b + (d * (1 + b) + r)) = omega arith in
    let k' : k + suc d ≡ (k + 1) + d = omega arith in
    let m' : suc m - suc d ≡ m - d = omega arith in
    rw (a, k', m', more) (drop-past b (d * (1 + b) + r) Shift (captures b l p (k + 1) m) ∙ blocks_on b l p (k + 1) m d r (omega arith) (omega arith))

-- the operations of a test, from a block on
from_block : (setup si so p d r n : ℕ) → d < p → n ≡ setup + si + (d * (1 + max si so) + r) →
    drop n (ops_of setup si so p) ≡ drop r (Capture (suc d) ∷ (replicate (cond (ltb (suc d) p) (max si so) so) Shift ++ captures (max si so) so p (suc (suc d)) (p - suc d)))
from_block setup si so p d r n h at =
    let n' : n ≡ setup + (si + (d * (1 + max si so) + r)) = omega arith in
    let m' : p - d ≡ suc (p - suc d) = omega arith in
    let k' : 1 + d ≡ suc d = omega arith in
    let k'' : suc d + 1 ≡ suc (suc d) = omega arith in
    let whole : drop n (ops_of setup si so p) ≡ drop (setup + (si + (d * (1 + max si so) + r))) (replicate setup Setup ++ (replicate si Shift ++ captures (max si so) so p 1 p)) =
    rw (n', ops_split setup si so p) refl in
    whole
    ∙ drop-past setup (si + (d * (1 + max si so) + r)) Setup (replicate si Shift ++ captures (max si so) so p 1 p)
    ∙ drop-past si (d * (1 + max si so) + r) Shift (captures (max si so) so p 1 p)
    ∙ blocks_on (max si so) so p 1 p d r (omega arith) h
    ∙ rw (m', k') (ap (drop r) (block_of (max si so) so p (suc d) (p - suc d) ∙ rw k'' refl))

-- ---- two places in blocks are one

-- a capture before an operation stands in its block, where it is read there
behind_block : (setup si so p d r n s k q : ℕ) → r < 1 + max si so → n ≡ setup + si + (d * (1 + max si so) + r) → slice_get (ops_of setup si so p) q ≡ Some (Capture k) → n ≡ q + 1 + s → s < so → (k ≡ suc d) × (r ≡ suc s)
behind_block setup si so p d r n s k q h at capture n_is within =
    let f : IsCaptured setup si so p q k = capture_found setup si so p q k capture in
    let place : q ≡ setup + si + (k - 1) * (1 + max si so) = f.place in
    let same = same_block (1 + max si so) d r (k - 1) (1 + s) h (omega arith) (omega arith) in
    let first : 1 ≤ k = f.first in
    (omega (arith, same.0), omega (arith, same.1))

-- no capture stands before the first
none_before : (setup si so p s k q n : ℕ) → n < setup + si → slice_get (ops_of setup si so p) q ≡ Some (Capture k) → n ≡ q + 1 + s → ⊥
none_before setup si so p s k q n h capture n_is =
    let f : IsCaptured setup si so p q k = capture_found setup si so p q k capture in
    let place : q ≡ setup + si + (k - 1) * (1 + max si so) = f.place in
    omega arith

-- ---- the moments

pub setup_moment : (f : Phases) (n : ℕ) → n < f.setup → IsMoment f n moment.Setup
setup_moment f n h =
    let left : f.setup - n ≡ suc (f.setup - suc n) = omega arith in
    let rest : List Operation = replicate f.si Shift ++ captures (max f.si f.so) f.so f.patterns 1 f.patterns in
    let from : drop n (ops_of f.setup f.si f.so f.patterns) ≡ Setup ∷ (replicate (f.setup - suc n) Setup ++ (replicate f.si Shift ++ captures (max f.si f.so) f.so f.patterns 1 f.patterns)) =
    ap (drop n) (ops_split f.setup f.si f.so f.patterns) ∙ drop-replicate n f.setup Setup (replicate f.si Shift ++ captures (max f.si f.so) f.so f.patterns 1 f.patterns) (omega arith) ∙ rw left refl in
    record {
      operation = (at_head (ops_of f.setup f.si f.so f.patterns) n Setup _ from).0;
      wants = λ stimulus cells. rw from refl;
      behind = λ s k e. absurd cc;
      every = λ s k q capture n_is within. absurd (none_before f.setup f.si f.so f.patterns s k q n (omega arith) capture n_is);
    }

pub first_moment : (f : Phases) (n i : ℕ) → 1 ≤ f.patterns → i < f.si → n ≡ f.setup + i → IsMoment f n (moment.Shift (Some (record { shifts = f.si - 1 - i; pattern = 1 })) None)
first_moment f n i some h at =
    let left : f.si - i ≡ suc (f.si - 1 - i) = omega arith in
    let many : f.patterns ≡ suc (f.patterns - 1) = omega arith in
    let cut : captures (max f.si f.so) f.so f.patterns 1 f.patterns ≡ Capture 1 ∷ (replicate (cond (ltb 1 f.patterns) (max f.si f.so) f.so) Shift ++ captures (max f.si f.so) f.so f.patterns 2 (f.patterns - 1)) =
    ap (captures (max f.si f.so) f.so f.patterns 1) many in
    let from : drop n (ops_of f.setup f.si f.so f.patterns) ≡ Shift ∷ (replicate (f.si - 1 - i) Shift ++ (Capture 1 ∷ (replicate (cond (ltb 1 f.patterns) (max f.si f.so) f.so) Shift ++ captures (max f.si f.so) f.so f.patterns 2 (f.patterns - 1)))) =
    rw (at, ops_split f.setup f.si f.so f.patterns) (drop-past f.setup i Setup (replicate f.si Shift ++ captures (max f.si f.so) f.so f.patterns 1 f.patterns)
    ∙ drop-replicate i f.si Shift (captures (max f.si f.so) f.so f.patterns 1 f.patterns) (omega arith) ∙ rw left (ap (λ v. Shift ∷ (replicate (f.si - 1 - i) Shift ++ v)) cut)) in
    record {
      operation = (at_head (ops_of f.setup f.si f.so f.patterns) n Shift _ from).0;
      wants = λ stimulus cells. rw (from, ahead_is (f.si - 1 - i) 1 (replicate (cond (ltb 1 f.patterns) (max f.si f.so) f.so) Shift ++ captures (max f.si f.so) f.so f.patterns 2 (f.patterns - 1))) refl;
      behind = λ s k e. absurd cc;
      every = λ s k q capture n_is within. absurd (none_before f.setup f.si f.so f.patterns s k q n (omega arith) capture n_is);
    }

pub capture_moment : (f : Phases) (n d k : ℕ) → d < f.patterns → n ≡ f.setup + f.si + d * (1 + max f.si f.so) → k ≡ d + 1 → IsMoment f n (moment.Capture k)
capture_moment f n d k h at number =
    let k' : k ≡ suc d = omega arith in
    let n' : n ≡ f.setup + f.si + (d * (1 + max f.si f.so) + 0) = omega arith in
    let from = from_block f.setup f.si f.so f.patterns d 0 n h n' in
    rw k' (record {
      operation = (at_head (ops_of f.setup f.si f.so f.patterns) n (Capture (suc d)) _ from).0;
      wants = λ stimulus cells. rw from refl;
      behind = λ s k e. absurd cc;
      every = λ s k q capture n_is within.
          let b = behind_block f.setup f.si f.so f.patterns d 0 n s k q (omega arith) n' capture n_is within in
          absurd (zero_suc b.1);
    })
  where
    zero_suc : {s : ℕ} → 0 ≡ suc s → ⊥
    zero_suc e = cc

-- what a Shift in a block is, from what stands behind it
shift_from : (f : Phases) (n d r s : ℕ) (a : Option NearCapture) (rest : List Operation) → d < f.patterns → n ≡ f.setup + f.si + (d * (1 + max f.si f.so) + suc r) → suc r < 1 + max f.si f.so →
    drop n (ops_of f.setup f.si f.so f.patterns) ≡ Shift ∷ (replicate s Shift ++ rest) →
    ((stimulus : ℕ → Cell → Bool) (cells : List Cell) → wanted stimulus cells (Shift ∷ (replicate s Shift ++ rest)) ≡ wanted_by stimulus cells (option_map near_capture a)) →
    IsMoment f n (moment.Shift a (Some (record { shifts = r; pattern = suc d })))
shift_from f n d r s a rest h at within from wants = record {
  operation = (at_head (ops_of f.setup f.si f.so f.patterns) n Shift _ from).0;
  wants = λ stimulus cells. rw from (wants stimulus cells);
  behind = λ s' k e.
      let pair : (r, suc d) ≡ (s', k) = same_Some _ _ e in
      let r' : r ≡ s' = ap (λ (p : ℕ × ℕ). p.0) pair in
      let k' : suc d ≡ k = ap (λ (p : ℕ × ℕ). p.1) pair in
      let place : capture_place f.setup f.si f.so (suc d) ≡ f.setup + f.si + d * (1 + max f.si f.so) = turn_place f.setup f.si f.so d in
      (capture_place f.setup f.si f.so (suc d), rw (← k') (capture_at f.setup f.si f.so f.patterns (suc d) (omega arith) (omega arith)), omega arith);
  every = λ s' k q capture n_is inside.
      let b = behind_block f.setup f.si f.so f.patterns d (suc r) n s' k q within at capture n_is inside in
      let r' : r ≡ s' = omega (arith, b.1) in
      rw (r', b.0) refl;
}
  where
    turn_place : (setup si so d : ℕ) → capture_place setup si so (suc d) ≡ setup + si + d * (1 + max si so)
    turn_place setup si so d = let e : suc d - 1 ≡ d = omega arith in rw e refl

all_shifts : (s : ℕ) → ahead (replicate s Shift ++ []) ≡ None
all_shifts zero = refl
all_shifts (suc s) = rw (all_shifts s) refl

pub shift_moment : (f : Phases) (n d r : ℕ) (a : Option NearCapture) → d < f.patterns → n ≡ f.setup + f.si + (d * (1 + max f.si f.so) + suc r) → r < cond (ltb (suc d) f.patterns) (max f.si f.so) f.so →
    a ≡ cond (ltb (suc d) f.patterns) (Some (record { shifts = max f.si f.so - suc r; pattern = suc (suc d) })) None →
    IsMoment f n (moment.Shift a (Some (record { shifts = r; pattern = suc d })))
shift_moment f n d r a h at within is = go (cases_lt (suc d) f.patterns) where
  b : ℕ
  b = max f.si f.so

  from : drop n (ops_of f.setup f.si f.so f.patterns) ≡ drop r (replicate (cond (ltb (suc d) f.patterns) (max f.si f.so) f.so) Shift ++ captures (max f.si f.so) f.so f.patterns (suc (suc d)) (f.patterns - suc d))
  from = from_block f.setup f.si f.so f.patterns d (suc r) n h at

  go : (suc d < f.patterns) ⊎ (f.patterns ≤ suc d) → IsMoment f n (moment.Shift a (Some (record { shifts = r; pattern = suc d })))
  go (inl more) =
      let t : ltb (suc d) f.patterns ≡ true = lt-ltb (suc d) f.patterns more in
      let within' = rw t at within in
      let is' = rw t at is in
      let left : max f.si f.so - r ≡ suc (max f.si f.so - suc r) = omega arith in
      let many : f.patterns - suc d ≡ suc (f.patterns - suc (suc d)) = omega arith in
      let rest : List Operation = replicate (cond (ltb (suc (suc d)) f.patterns) (max f.si f.so) f.so) Shift ++ captures (max f.si f.so) f.so f.patterns (suc (suc d) + 1) (f.patterns - suc (suc d)) in
      let from' : drop n (ops_of f.setup f.si f.so f.patterns) ≡ Shift ∷ (replicate (max f.si f.so - suc r) Shift ++ (Capture (suc (suc d)) ∷ rest)) =
      from ∙ rw t (drop-replicate r (max f.si f.so) Shift (captures (max f.si f.so) f.so f.patterns (suc (suc d)) (f.patterns - suc d)) (omega arith) ∙ rw (left, many) refl) in
      shift_from f n d r (max f.si f.so - suc r) a (Capture (suc (suc d)) ∷ rest) h at (omega arith) from' (λ stimulus cells. rw (ahead_is (max f.si f.so - suc r) (suc (suc d)) rest, is') refl)
  go (inr last) =
      let t : ltb (suc d) f.patterns ≡ false = le-ltb (suc d) f.patterns last in
      let within' = rw t at within in
      let is' = rw t at is in
      let left : f.so - r ≡ suc (f.so - suc r) = omega arith in
      let many : f.patterns - suc d ≡ 0 = omega arith in
      let from' : drop n (ops_of f.setup f.si f.so f.patterns) ≡ Shift ∷ (replicate (f.so - suc r) Shift ++ []) =
      from ∙ rw t (drop-replicate r f.so Shift (captures (max f.si f.so) f.so f.patterns (suc (suc d)) (f.patterns - suc d)) (omega arith) ∙ rw (left, many) refl) in
      shift_from f n d r (f.so - suc r) a [] h at (omega arith) from' (λ stimulus cells. rw (all_shifts (f.so - suc r), is') refl)

-- ---- the block and the place of a cycle

below_blocks : (b d r p : ℕ) → d * (1 + b) + r < (1 + b) * p → d < p
below_blocks b d r p h = go (cases_lt d p) where
  go : (d < p) ⊎ (p ≤ d) → d < p
  go (inl less) = less
  go (inr past) =
      let e : d ≡ p + (d - p) = omega arith in
      let wide : d * (1 + b) ≡ (p + (d - p)) * (1 + b) = ap (λ v. v * (1 + b)) e in
      absurd (omega arith)

last_block : (si so d r : ℕ) → si + (d * (1 + max si so) + r) < (1 + max si so) * suc d + min si so → r < 1 + so
last_block si so d r h = omega arith

pub block_within : (f : Phases) (n cycle d r : ℕ) → 1 ≤ f.patterns → n ≡ f.setup + f.si + cycle → n < length (phase_ops f) → cycle ≡ d * (1 + max f.si f.so) + r → r < 1 + max f.si f.so →
    (d < f.patterns) × (r < 1 + cond (ltb (suc d) f.patterns) (max f.si f.so) f.so)
block_within f n cycle d r some n_is active parts within =
    let long : length (ops_of f.setup f.si f.so f.patterns) ≡ f.setup + (1 + max f.si f.so) * f.patterns + min f.si f.so = ops_length f.setup f.si f.so f.patterns some in
    let total : f.si + (d * (1 + max f.si f.so) + r) < (1 + max f.si f.so) * f.patterns + min f.si f.so = omega arith in
    let below : d < f.patterns = below_blocks (max f.si f.so) d r f.patterns (omega arith) in
    (below, place (cases_lt (suc d) f.patterns) total)
  where
    place : (suc d < f.patterns) ⊎ (f.patterns ≤ suc d) → f.si + (d * (1 + max f.si f.so) + r) < (1 + max f.si f.so) * f.patterns + min f.si f.so → r < 1 + cond (ltb (suc d) f.patterns) (max f.si f.so) f.so
    place (inl more) total = rw (lt-ltb (suc d) f.patterns more) within
    place (inr last) total =
        let below : d < f.patterns = below_blocks (max f.si f.so) d r f.patterns (omega arith) in
        let p : f.patterns ≡ suc d = omega arith in
        rw (le-ltb (suc d) f.patterns last) (last_block f.si f.so d r (rw p at total))

-- the block and the place of a cycle behind the first capture
record Parts (f : Phases) (cycle d r : ℕ) : Type 0 where
  pub parts : cycle ≡ d * (1 + max f.si f.so) + r
  pub inside : r < 1 + max f.si f.so
  pub below : d < f.patterns
  pub shifts : r < 1 + cond (ltb (suc d) f.patterns) (max f.si f.so) f.so

parts_max : (f : Phases) (cycle : ℕ) → 1 ≤ f.patterns → f.setup + f.si + cycle < length (phase_ops f) → Parts f cycle (cycle / (1 + max f.si f.so)) (cycle % (1 + max f.si f.so))
parts_max f cycle some active =
    let split : cycle % (1 + max f.si f.so) + (1 + max f.si f.so) * (cycle / (1 + max f.si f.so)) ≡ cycle = mod-add-div cycle (1 + max f.si f.so) in
    let here : cycle ≡ cycle / (1 + max f.si f.so) * (1 + max f.si f.so) + cycle % (1 + max f.si f.so) = omega arith in
    let within : cycle % (1 + max f.si f.so) < 1 + max f.si f.so = mod_below cycle (1 + max f.si f.so) (omega arith) in
    let both = block_within f (f.setup + f.si + cycle) cycle (cycle / (1 + max f.si f.so)) (cycle % (1 + max f.si f.so)) some refl active here within in
    record { parts = here; inside = within; below = both.0; shifts = both.1 }

parts_of : (f : Phases) (cycle w : ℕ) → 1 ≤ f.patterns → f.setup + f.si + cycle < length (phase_ops f) → w ≡ max f.si f.so → Parts f cycle (cycle / (1 + w)) (cycle % (1 + w))
parts_of f cycle w some active wide = subst (λ w. Parts f cycle (cycle / (1 + w)) (cycle % (1 + w))) (sym wide) (parts_max f cycle some active)

pub block_fits : (f : Phases) (cycle w : ℕ) → 1 ≤ f.patterns → f.setup + f.si + cycle < length (phase_ops f) → w ≡ max f.si f.so → cycle / (1 + w) < f.patterns
block_fits f cycle w some active wide = (parts_of f cycle w some active wide).below

pub capture_at_division : (f : Phases) (cycle w : ℕ) → 1 ≤ f.patterns → f.setup + f.si + cycle < length (phase_ops f) → w ≡ max f.si f.so → cycle % (1 + w) ≡ 0 → IsMoment f (f.setup + f.si + cycle) (moment.Capture (cycle / (1 + w) + 1))
capture_at_division f cycle w some active wide none =
    let p : Parts f cycle (cycle / (1 + w)) (cycle % (1 + w)) = parts_of f cycle w some active wide in
    let place = p.parts in
    capture_moment f (f.setup + f.si + cycle) (cycle / (1 + w)) (cycle / (1 + w) + 1) p.below (omega (arith, place, none)) refl

pub shift_at_division : (f : Phases) (cycle w : ℕ) (a : Option NearCapture) → 1 ≤ f.patterns → f.setup + f.si + cycle < length (phase_ops f) → w ≡ max f.si f.so → (cycle % (1 + w) ≡ 0 → ⊥) →
    a ≡ cond (ltb (suc (cycle / (1 + w))) f.patterns) (Some (record { shifts = 1 + w - 1 - cycle % (1 + w); pattern = suc (suc (cycle / (1 + w))) })) None →
    IsMoment f (f.setup + f.si + cycle) (moment.Shift a (Some (record { shifts = cycle % (1 + w) - 1; pattern = cycle / (1 + w) + 1 })))
shift_at_division f cycle w a some active wide not_zero is =
    let p : Parts f cycle (cycle / (1 + w)) (cycle % (1 + w)) = parts_of f cycle w some active wide in
    let place = p.parts in
    let shifts = p.shifts in
    let one : cycle % (1 + w) ≡ suc (cycle % (1 + w) - 1) = positive (cycle % (1 + w)) not_zero in
    let next : cycle / (1 + w) + 1 ≡ suc (cycle / (1 + w)) = omega arith in
    let left : 1 + w - 1 - cycle % (1 + w) ≡ max f.si f.so - suc (cycle % (1 + w) - 1) = omega arith in
    let is' = rw left at is in
    rw next (shift_moment f (f.setup + f.si + cycle) (cycle / (1 + w)) (cycle % (1 + w) - 1) a p.below (omega (arith, place, one)) (omega (arith, shifts, one)) is')
  where
    positive : (n : ℕ) → (n ≡ 0 → ⊥) → n ≡ suc (n - 1)
    positive zero not_zero = absurd (not_zero refl)
    positive (suc n) not_zero = let e : suc n - 1 ≡ n = omega arith in rw e refl
