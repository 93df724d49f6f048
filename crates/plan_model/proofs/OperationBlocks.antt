-- The blocks of a test's operations: Shifts before each Capture, and Shifts behind it.
use Rattle.std.proofs.Common.{◌≡◌, ℕ, zero, suc, ◌+◌, ◌-◌, ◌*◌, ◌≤◌, max, true, false, Some, List, [], ◌∷◌, ◌++◌, length, replicate, drop, ltb, refl, ap, ◌∙◌, sym, subst, arith, add-zero, zero-add, append_assoc}
use Rattle.std.specs.Prelude.{slice_get}
use Rattle.std.specs.List.{flat_map, range_with_len}
use Rattle.std.proofs.lemmas.List.{length-append, length-replicate, drop_at, drop-drop}
use Rattle.std.proofs.lemmas.Bool.{lt-ltb, le-ltb}
use Rattle.plan_model.specs.Operations.{Operation, Setup, Shift, Capture, ops_of, capture_and_shifts}

-- the Captures from `k` on, `m` of them, with the Shifts after them
abbrev pub captures : (b l p k m : ℕ) → List Operation
captures b l p k m = flat_map (capture_and_shifts b l p) (range_with_len k m)

-- Operation `n` is Capture `k`, behind at least `si` Shifts and before at least `so`.
pub record Block (ops : List Operation) (si so n k : ℕ) : Type 0 where
  pub from : ℕ
  pub shifts_in : ℕ
  pub shifts_out : ℕ
  pub rest : List Operation
  pub at : from + shifts_in ≡ n
  pub enough_in : si ≤ shifts_in
  pub enough_out : so ≤ shifts_out
  pub is : drop from ops ≡ replicate shifts_in Shift ++ (Capture k ∷ (replicate shifts_out Shift ++ rest))

-- a Capture behind Shifts stands in what follows them
pub past_shifts : (s n k : ℕ) (ops : List Operation) → slice_get (replicate s Shift ++ ops) n ≡ Some (Capture k) → (i : ℕ) × (n ≡ s + i) × (slice_get ops i ≡ Some (Capture k))
past_shifts zero n k ops e = (n, sym (zero-add n), e)
past_shifts (suc s) zero k ops e = absurd cc
past_shifts (suc s) (suc n) k ops e =
    let p = past_shifts s n k ops e in (p.0, omega arith, p.2)

pub drop_past : (n : ℕ) (xs ys : List Operation) → drop (length xs + n) (xs ++ ys) ≡ drop n ys
drop_past n xs ys = sym (drop-drop n (length xs) (xs ++ ys)) ∙ ap (drop n) (drop_at xs ys (length xs) refl)

-- a block of a part is one of the whole
pub block_past : (xs ys : List Operation) (si so n k m : ℕ) → length xs + n ≡ m → Block ys si so n k → Block (xs ++ ys) si so m k
block_past xs ys si so n k m e b = record {
  from = length xs + b.from;
  shifts_in = b.shifts_in;
  shifts_out = b.shifts_out;
  rest = b.rest;
  at = omega (arith, b.at);
  enough_in = b.enough_in;
  enough_out = b.enough_out;
  is = drop_past b.from xs ys ∙ b.is;
}

pub block_here : (s t si so k : ℕ) (rest : List Operation) → si ≤ s → so ≤ t → Block (replicate s Shift ++ (Capture k ∷ (replicate t Shift ++ rest))) si so s k
block_here s t si so k rest i o = record {
  from = 0;
  shifts_in = s;
  shifts_out = t;
  rest = rest;
  at = zero-add s;
  enough_in = i;
  enough_out = o;
  is = refl;
}

-- where a Capture stands, which it is, and its block
pub record Found (ops : List Operation) (si so b s k m n c : ℕ) : Type 0 where
  pub round : ℕ
  pub within : round ≤ m
  pub pattern : c ≡ k + round
  pub place : n ≡ s + round * (1 + b)
  pub block : Block ops si so n c

-- a block of what follows a Capture, its place, and its number
pub found_later : (tail : List Operation) (si so b s k m i n c : ℕ) → n ≡ s + suc i → Found tail si so b b (k + 1) m i c →
    Found (replicate s Shift ++ (Capture k ∷ tail)) si so b s k (suc m) n c
found_later tail si so b s k m i n c at f = record {
  round = suc f.round;
  within = omega (arith, f.within);
  pattern = omega (arith, f.pattern);
  place = omega (arith, f.place);
  block =
      let long : length (replicate s Shift ++ (Capture k ∷ [])) ≡ s + 1 = omega (arith, length-append (replicate s Shift) (Capture k ∷ []), length-replicate s Shift) in
      let whole : (replicate s Shift ++ (Capture k ∷ [])) ++ tail ≡ replicate s Shift ++ (Capture k ∷ tail) = append_assoc (replicate s Shift) (Capture k ∷ []) tail in
      subst (λ v. Block v si so n c) whole (block_past (replicate s Shift ++ (Capture k ∷ [])) tail si so i c n (omega arith) f.block);
}

found_here : (t si so b s k m n c : ℕ) (rest : List Operation) → n ≡ s + 0 → Some (Capture k) ≡ Some (Capture c) → si ≤ s → so ≤ t →
    Found (replicate s Shift ++ (Capture k ∷ (replicate t Shift ++ rest))) si so b s k m n c
found_here t si so b s k m n c rest at e i o =
    let same : k ≡ c = cc in
    let here : s ≡ n = omega arith in
    record {
      round = 0;
      within = omega arith;
      pattern = omega arith;
      place = omega arith;
      block = subst (λ v. Block (replicate s Shift ++ (Capture k ∷ (replicate t Shift ++ rest))) si so n v) same (subst (λ v. Block (replicate s Shift ++ (Capture k ∷ (replicate t Shift ++ rest))) si so v k) here (block_here s t si so k rest i o));
    }

no_capture : (t i c : ℕ) → slice_get (replicate t Shift ++ []) i ≡ Some (Capture c) → ⊥
no_capture zero i c e = cc
no_capture (suc t) zero c e = cc
no_capture (suc t) (suc i) c e = no_capture t i c e

pub found : (si so b l p m k s n c : ℕ) → k + m ≡ p → si ≤ s → si ≤ b → so ≤ b → so ≤ l →
    slice_get (replicate s Shift ++ captures b l p k (suc m)) n ≡ Some (Capture c) → Found (replicate s Shift ++ captures b l p k (suc m)) si so b s k m n c
found si so b l p zero k s n c e si_s si_b so_b so_l h =
    let last : ltb k p ≡ false = le-ltb k p (omega arith) in
    let h' = rw last at h in
    let q = past_shifts s n c (Capture k ∷ (replicate l Shift ++ [])) h' in
    rw last (at_last q.0 q.1 q.2)
  where
    at_last : (i : ℕ) → n ≡ s + i → slice_get (Capture k ∷ (replicate l Shift ++ [])) i ≡ Some (Capture c) → Found (replicate s Shift ++ (Capture k ∷ (replicate l Shift ++ []))) si so b s k zero n c
    at_last zero at x = found_here l si so b s k zero n c [] at x si_s so_l
    at_last (suc i) at x = absurd (no_capture l i c x)
found si so b l p (suc m) k s n c e si_s si_b so_b so_l h =
    let more : ltb k p ≡ true = lt-ltb k p (omega arith) in
    let h' = rw more at h in
    let q = past_shifts s n c (Capture k ∷ (replicate b Shift ++ captures b l p (k + 1) (suc m))) h' in
    rw more (at_more q.0 q.1 q.2 (λ i x. found si so b l p m (k + 1) b i c (omega arith) si_b si_b so_b so_l x))
  where
    at_more : (i : ℕ) → n ≡ s + i → slice_get (Capture k ∷ (replicate b Shift ++ captures b l p (k + 1) (suc m))) i ≡ Some (Capture c) →
        ((j : ℕ) → slice_get (replicate b Shift ++ captures b l p (k + 1) (suc m)) j ≡ Some (Capture c) → Found (replicate b Shift ++ captures b l p (k + 1) (suc m)) si so b b (k + 1) m j c) →
        Found (replicate s Shift ++ (Capture k ∷ (replicate b Shift ++ captures b l p (k + 1) (suc m)))) si so b s k (suc m) n c
    at_more zero at x later = found_here b si so b s k (suc m) n c (captures b l p (k + 1) (suc m)) at x si_s so_b
    at_more (suc i) at x later = found_later (replicate b Shift ++ captures b l p (k + 1) (suc m)) si so b s k m i n c at (later i x)

slice_get_past_shifts : (s i n : ℕ) (ops : List Operation) → s + i ≡ n → slice_get (replicate s Shift ++ ops) n ≡ slice_get ops i
slice_get_past_shifts zero i n ops e =
    let same : n ≡ i = omega arith in
    rw same refl
slice_get_past_shifts (suc s) i zero ops e = absurd (omega arith)
slice_get_past_shifts (suc s) i (suc n) ops e = slice_get_past_shifts s i n ops (omega arith)

-- each Capture stands at its place
pub captures_at : (b l p d m k s n : ℕ) → k + m ≡ p → d ≤ m → n ≡ s + d * (1 + b) → slice_get (replicate s Shift ++ captures b l p k (suc m)) n ≡ Some (Capture (k + d))
captures_at b l p zero m k s n e h at = slice_get_past_shifts s 0 n (captures b l p k (suc m)) (omega arith) ∙ rw (add-zero k) refl
captures_at b l p (suc d) zero k s n e h at = absurd (omega arith)
captures_at b l p (suc d) (suc m) k s n e h at =
    let more : ltb k p ≡ true = lt-ltb k p (omega arith) in
    let same : k + suc d ≡ (k + 1) + d = omega arith in
    slice_get_past_shifts s (suc (b + d * (1 + b))) n (captures b l p k (suc (suc m))) (omega arith) ∙ rw (more, same) (captures_at b l p d m (k + 1) b (b + d * (1 + b)) (omega arith) (omega arith) refl)

-- captures of a test stand behind its Setups
no_capture_in_setup : (s n c : ℕ) (ops : List Operation) → slice_get (replicate s Setup ++ ops) n ≡ Some (Capture c) → (i : ℕ) × (n ≡ s + i) × (slice_get ops i ≡ Some (Capture c))
no_capture_in_setup zero n c ops e = (n, sym (zero-add n), e)
no_capture_in_setup (suc s) zero c ops e = absurd cc
no_capture_in_setup (suc s) (suc n) c ops e =
    let p = no_capture_in_setup s n c ops e in (p.0, omega arith, p.2)

slice_get_past_setup : (s i n : ℕ) (ops : List Operation) → s + i ≡ n → slice_get (replicate s Setup ++ ops) n ≡ slice_get ops i
slice_get_past_setup zero i n ops e =
    let same : n ≡ i = omega arith in
    rw same refl
slice_get_past_setup (suc s) i zero ops e = absurd (omega arith)
slice_get_past_setup (suc s) i (suc n) ops e = slice_get_past_setup s i n ops (omega arith)

ops_split : (setup si so p : ℕ) → ops_of setup si so p ≡ replicate setup Setup ++ (replicate si Shift ++ captures (max si so) so p 1 p)
unfolding ops_of
ops_split setup si so p = append_assoc (replicate setup Setup) (replicate si Shift) (captures (max si so) so p 1 p)

-- where Capture `k` of a test stands
abbrev pub capture_place : (setup si so k : ℕ) → ℕ
capture_place setup si so k = setup + si + (k - 1) * (1 + max si so)

-- A Capture of the operations of a test is one of its patterns, at its place, and has its block.
pub record IsCaptured (setup si so p n k : ℕ) : Type 0 where
  pub first : 1 ≤ k
  pub last : k ≤ p
  pub place : n ≡ capture_place setup si so k
  pub block : Block (ops_of setup si so p) si so n k

captured_from : (setup si so m n k i : ℕ) → n ≡ setup + i → Found (replicate si Shift ++ captures (max si so) so (suc m) 1 (suc m)) si so (max si so) si 1 m i k → IsCaptured setup si so (suc m) n k
captured_from setup si so m n k i at f = record {
  first = omega (arith, f.pattern);
  last = omega (arith, f.pattern, f.within);
  place =
      let round : k - 1 ≡ f.round = omega (arith, f.pattern) in
      rw round (omega (arith, at, f.place));
  block =
      let whole : replicate setup Setup ++ (replicate si Shift ++ captures (max si so) so (suc m) 1 (suc m)) ≡ ops_of setup si so (suc m) = sym (ops_split setup si so (suc m)) in
      subst (λ v. Block v si so n k) whole (block_past (replicate setup Setup) (replicate si Shift ++ captures (max si so) so (suc m) 1 (suc m)) si so i k n (omega (arith, length-replicate setup Setup, at)) f.block);
}

pub capture_found : (setup si so p n k : ℕ) → slice_get (ops_of setup si so p) n ≡ Some (Capture k) → IsCaptured setup si so p n k
capture_found setup si so zero n k e =
    let e' = rw (ops_split setup si so zero) at e in
    absurd (no_capture si ((no_capture_in_setup setup n k (replicate si Shift ++ []) e').0) k ((no_capture_in_setup setup n k (replicate si Shift ++ []) e').2))
capture_found setup si so (suc m) n k e =
    let e' = rw (ops_split setup si so (suc m)) at e in
    let q = no_capture_in_setup setup n k (replicate si Shift ++ captures (max si so) so (suc m) 1 (suc m)) e' in
    captured_from setup si so m n k q.0 q.1 (found si so (max si so) so (suc m) m 1 si q.0 k (omega arith) (omega arith) (omega arith) (omega arith) (omega arith) q.2)

pub capture_at : (setup si so p k : ℕ) → 1 ≤ k → k ≤ p → slice_get (ops_of setup si so p) (capture_place setup si so k) ≡ Some (Capture k)
capture_at setup si so p zero a b = absurd (omega arith)
capture_at setup si so zero (suc d) a b = absurd (omega arith)
capture_at setup si so (suc m) (suc d) a b =
    let round : suc d - 1 ≡ d = omega arith in
    let number : 1 + d ≡ suc d = omega arith in
    rw (ops_split setup si so (suc m), round) (slice_get_past_setup setup (si + d * (1 + max si so)) (setup + si + d * (1 + max si so)) (replicate si Shift ++ captures (max si so) so (suc m) 1 (suc m)) (omega arith)
    ∙ captures_at (max si so) so (suc m) d m 1 si (si + d * (1 + max si so)) (omega arith) (omega arith) refl ∙ rw number refl)
