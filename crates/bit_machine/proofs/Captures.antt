-- A capture, part by part of a chain.
use Rattle.std.proofs.Common.{◌≡◌, ℕ, zero, suc, ◌+◌, ◌≤◌, ◌<◌, Bool, false, cond, List, [], ◌∷◌, ◌++◌, length, get_or, map, take, drop, refl, ap, ◌∙◌, arith, slice_index, sum}
use Rattle.std.specs.List.{range_with_len}
use Rattle.plan_model.specs.Cells.{Cell, Flop, Out, is_read, in_cells, out_cells, flops}
use Rattle.plan_model.specs.Runs.{captured}
use Rattle.bit_machine.specs.Sessions.{response_bit}
use Rattle.vector_lines.proofs.Responses.{AreRead, range_map}

pub length-captured : (f : Cell → Bool) (xs : List Cell) (bits : List Bool) → length (captured f xs bits) ≡ length bits
length-captured f [] bits = refl
length-captured f (x ∷ xs) [] = refl
length-captured f (x ∷ xs) (b ∷ bits) = ap suc (length-captured f xs bits)

-- input cells stay
pub captured-ins : (f : Cell → Bool) (i n : ℕ) (bits : List Bool) → captured f (in_cells i n) bits ≡ bits
captured-ins f i zero bits = refl
captured-ins f i (suc n) [] = refl
captured-ins f i (suc n) (b ∷ bits) = ap (λ v. b ∷ v) (captured-ins f (i + 1) n bits)

module _ (f : Cell → Bool) where
  captured-read : (ys : List Cell) (bits : List Bool) → AreRead ys → length ys ≤ length bits → captured f ys bits ≡ map f ys ++ drop (length ys) bits
  captured-read [] bits read fits = refl
  captured-read (y ∷ ys) [] read fits = absurd (omega arith)
  captured-read (y ∷ ys) (b ∷ bits) read fits = rw (read.0, captured-read ys bits read.1 (omega arith)) refl

  -- the cells of one more part, all of which are read
  pub captured-more : (xs ys : List Cell) (bits : List Bool) → AreRead ys → length xs + length ys ≤ length bits →
      captured f (xs ++ ys) bits ≡ take (length xs) (captured f xs bits) ++ map f ys ++ drop (length xs + length ys) (captured f xs bits)
  captured-more [] ys bits read fits =
      let none : 0 + length ys ≡ length ys = omega arith in
      rw none (captured-read ys bits read (omega arith))
  captured-more (x ∷ xs) ys [] read fits = absurd (omega arith)
  captured-more (x ∷ xs) ys (b ∷ bits) read fits =
      let next : suc (length xs) + length ys ≡ suc (length xs + length ys) = omega arith in
      rw next (ap (λ v. (cond (is_read x) (f x) b) ∷ v) (captured-more xs ys bits read (omega arith)))

-- ---- the answers of a part stand side by side in a response

reads_range : (xs : List Bool) (s i n j : ℕ) → s + i ≡ j → j + n ≤ length xs → map (λ k. get_or xs (s + k) false) (range_with_len i n) ≡ take n (drop j xs)
reads_range xs s i zero j same fits = refl
reads_range xs s i (suc n) j same fits =
    let next : s + (i + 1) ≡ suc j = omega arith in
    let rest = reads_range xs s (i + 1) n (suc j) next (omega arith) in
    let first = cut xs j n (omega arith) in
    rw (first, same, rest) refl
  where
    cut : (xs : List Bool) (j n : ℕ) → j < length xs → take (suc n) (drop j xs) ≡ get_or xs j false ∷ take n (drop (suc j) xs)
    cut [] j n h = absurd (omega arith)
    cut (x ∷ xs) zero n h = refl
    cut (x ∷ xs) (suc j) n h = cut xs j n (omega arith)

pub flop_answers : (lengths : List ℕ) (response : List Bool) (c : ℕ) {s : ℕ} → s ≡ sum (take c lengths) →
    s + slice_index lengths c ≤ length response →
    map (response_bit lengths response) (flops lengths c) ≡ take (slice_index lengths c) (drop s response)
flop_answers lengths response c {s} same fits =
    range_map (response_bit lengths response) (λ i. Flop c i) 0 (slice_index lengths c)
    ∙ rw (← same) (reads_range response s 0 (slice_index lengths c) s (omega arith) fits)

pub out_answers : (lengths : List ℕ) (response : List Bool) (o n : ℕ) {s : ℕ} → sum lengths + o ≡ s → s + n ≤ length response →
    map (response_bit lengths response) (out_cells o n) ≡ take n (drop s response)
out_answers lengths response o n {s} same fits =
    range_map (response_bit lengths response) (λ k. Out k) o n ∙ reads_range response (sum lengths) o n s same fits
