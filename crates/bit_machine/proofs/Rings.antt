-- The bits of a ring after one of them is written, or one enters.
use Rattle.std.proofs.Common.{◌≡◌, ℕ, zero, suc, ◌+◌, ◌-◌, ◌≤◌, ◌<◌, ◌⊎◌, Bool, List, [], ◌∷◌, ◌++◌, length, take, drop, set, refl, ap, sym, ◌∙◌, arith, inl, inr, length-drop}
use Rattle.std.proofs.lemmas.List.{length-append, length-take-le, drop-set-add, drop-set-lt, drop_more, take-set-le, set-append_left, set-append_right}
use Rattle.std.proofs.Math.Seq.{take-set-lt, take-append-add}
use Rattle.bit_machine.specs.Rings.{IsHead}
use Rattle.bit_machine.specs.Sessions.{entered}

module _ (bits : List Bool) (head : ℕ) where
  pub put_at : (cell place : ℕ) (b : Bool) → cell < length bits → head ≤ length bits → place < length bits →
      (place ≡ head + cell) ⊎ (place + length bits ≡ head + cell) →
      drop head (set bits place b) ++ take head (set bits place b) ≡ set (drop head bits ++ take head bits) cell b
  put_at cell place b h fits within (inl same) =
      let long = length-drop head bits in
      rw (same, drop-set-add head bits cell b, take-set-le head bits (head + cell) b (omega arith)) (sym (set-append_left (drop head bits) (take head bits) cell b (omega arith)))
  put_at cell place b h fits within (inr round) =
      let long = length-drop head bits in
      let number : cell - (length bits - head) ≡ place = omega arith in
      rw (drop-set-lt head bits place b (omega arith), take-set-lt head bits place b (omega arith)) (sym (set-append_right (drop head bits) (take head bits) (length bits - head) cell b long (omega arith) ∙ rw number refl))

  pub head_fits : IsHead head bits → head ≤ length bits
  head_fits (inl less) = omega arith
  head_fits (inr none) = omega (arith, none.0)

  pub ring_long : head ≤ length bits → length (drop head bits ++ take head bits) ≡ length bits
  ring_long fits = length-append (drop head bits) (take head bits) ∙ omega (arith, length-drop head bits, length-take-le head bits fits)

module _ (bits : List Bool) (first : ℕ) (b : Bool) where
  -- what stands from the place of the new head on
  from_first : first < length bits → drop first (set bits first b) ≡ b ∷ drop (first + 1) bits
  from_first h =
      let none : first + 0 ≡ first = omega arith in
      ap (λ n. drop first (set bits n b)) (sym none) ∙ drop-set-add first bits 0 b ∙ ap (λ l. set l 0 b) (drop_more bits first b h)

  pub enter_at : (head : ℕ) → first < length bits → head < length bits → (first + 1 ≡ head) ⊎ ((head ≡ 0) × (first + 1 ≡ length bits)) →
      drop first (set bits first b) ++ take first (set bits first b) ≡ entered b (drop head bits ++ take head bits)
  enter_at head within h (inl before) =
      let long = length-drop head bits in
      let all : length (drop head bits ++ take head bits) ≡ suc (length (drop head bits) + first) = ring_long bits head (omega arith) ∙ omega arith in
      let front : take first (take head bits) ≡ take first bits = rw (← before) (take_front first bits) in
      rw (from_first within, take-set-le first bits first b (omega arith), before)
      (sym (ap (λ n. take n (b ∷ (drop head bits ++ take head bits))) all ∙ ap (λ l. b ∷ l) (take-append-add (drop head bits) (take head bits) first ∙ ap (λ l. drop head bits ++ l) front)))
    where
      take_front : (n : ℕ) (l : List Bool) → take n (take (n + 1) l) ≡ take n l
      take_front zero l = refl
      take_front (suc n) [] = let e : suc n + 1 ≡ suc (n + 1) = omega arith in rw e refl
      take_front (suc n) (x ∷ l) = let e : suc n + 1 ≡ suc (n + 1) = omega arith in rw e (ap (λ l. x ∷ l) (take_front n l))
  enter_at head within h (inr round) =
      let all : length (drop head bits ++ take head bits) ≡ suc first = ring_long bits head (omega arith) ∙ omega (arith, round.1) in
      let over : drop (first + 1) bits ≡ [] = ap (λ n. drop n bits) round.1 ∙ Rattle.std.proofs.Math.Seq.drop-length bits in
      let whole : drop head bits ++ take head bits ≡ bits = rw round.0 (Rattle.std.proofs.lemmas.List.append-nil bits) in
      rw (from_first within, take-set-le first bits first b (omega arith), over)
      (sym (ap (λ n. take n (b ∷ (drop head bits ++ take head bits))) all ∙ ap (λ l. b ∷ take first l) whole))
