-- One list that is changed item by item along another.
use Rattle.std.proofs.Common.{◌≡◌, ℕ, zero, suc, ◌+◌, ◌<◌, List, [], ◌∷◌, length, get_or, map, take, refl, ap, ◌∙◌, sym, arith}
use Rattle.std.specs.List.{range_with_len}
use Rattle.std.proofs.Math.ListN.{set}
use Rattle.bit_machine.specs.Sessions.{each_with}

module _ {X Y : Type 0} (f : X → Y → Y) where
  pub length-each_with : (xs : List X) (ys : List Y) → length (each_with f xs ys) ≡ length ys
  length-each_with [] ys = refl
  length-each_with (x ∷ xs) [] = refl
  length-each_with (x ∷ xs) (y ∷ ys) = ap suc (length-each_with xs ys)

  -- what the first list does not reach stays
  pub each_with-past : (xs : List X) (ys : List Y) (j : ℕ) (e : Y) → j < length ys → get_or (each_with f (take j xs) ys) j e ≡ get_or ys j e
  each_with-past xs [] j e h = absurd (omega arith)
  each_with-past xs (y ∷ ys) zero e h = refl
  each_with-past [] (y ∷ ys) (suc j) e h = refl
  each_with-past (x ∷ xs) (y ∷ ys) (suc j) e h = each_with-past xs ys j e (omega arith)

  -- one item more
  pub each_with-more : (xs : List X) (ys : List Y) (j : ℕ) (d : X) (e : Y) → j < length xs → j < length ys →
      each_with f (take (suc j) xs) ys ≡ set (each_with f (take j xs) ys) j (f (get_or xs j d) (get_or ys j e))
  each_with-more [] ys j d e h h' = absurd (omega arith)
  each_with-more (x ∷ xs) [] j d e h h' = absurd (omega arith)
  each_with-more (x ∷ xs) (y ∷ ys) zero d e h h' = refl
  each_with-more (x ∷ xs) (y ∷ ys) (suc j) d e h h' = ap (λ v. f x y ∷ v) (each_with-more xs ys j d e (omega arith) (omega arith))

-- ---- by places

shifted_range : {Z : Type 0} (g : ℕ → Z) (a n : ℕ) → map g (range_with_len (suc a) n) ≡ map (λ j. g (suc j)) (range_with_len a n)
shifted_range g a zero = refl
shifted_range g a (suc n) =
    let here : suc a + 1 ≡ suc (a + 1) = omega arith in
    ap (λ v. g (suc a) ∷ v) (rw here (shifted_range g (a + 1) n))

pub each_with-map : {X Y : Type 0} (f : X → Y → Y) (xs : List X) (ys : List Y) (d : X) (e : Y) → length xs ≡ length ys →
    each_with f xs ys ≡ map (λ j. f (get_or xs j d) (get_or ys j e)) (range_with_len 0 (length xs))
each_with-map f [] [] d e same = refl
each_with-map f [] (y ∷ ys) d e same = absurd (omega arith)
each_with-map f (x ∷ xs) [] d e same = absurd (omega arith)
each_with-map f (x ∷ xs) (y ∷ ys) d e same =
    ap (λ v. f x y ∷ v) (each_with-map f xs ys d e (omega arith) ∙ sym (shifted_range (λ j. f (get_or (x ∷ xs) j d) (get_or (y ∷ ys) j e)) 0 (length xs)))

-- where each change keeps the length, all lengths stay
pub each_with-lengths : {X Z : Type 0} (f : X → List Z → List Z) → ((x : X) (y : List Z) → length (f x y) ≡ length y) → (xs : List X) (ys : List (List Z)) →
    map (λ (b : List Z). length b) (each_with f xs ys) ≡ map (λ (b : List Z). length b) ys
each_with-lengths f keeps [] ys = refl
each_with-lengths f keeps (x ∷ xs) [] = refl
each_with-lengths f keeps (x ∷ xs) (y ∷ ys) = rw (keeps x y, each_with-lengths f keeps xs ys) refl
