-- Lists by what stands at a place: ranges of numbers, lists whose items differ, sums over ranges.
use Rattle.std.proofs.Common.{◌≡◌, ◌⊎◌, inl, inr, ℕ, zero, suc, ◌+◌, ◌-◌, ◌*◌, ◌<◌, Bool, true, false, Some, None, List, [], ◌∷◌, ◌++◌, length, map, min, refl, sym, ap, ◌∙◌, arith, slice_get, find, sum_by}
use Rattle.std.specs.List.{range_with_len}
use Rattle.std.proofs.lemmas.Bool.{cases_Bool}
use Rattle.std.proofs.lemmas.List.FromFn.{length-range_with_len, get_or-range_with_len}
use Rattle.std.proofs.lemmas.List.Sums.{sum_by-cons}
use Rattle.std.proofs.lemmas.Option.{slice_get-get_or}
use Rattle.plan_model.proofs.Lists.{from_append}
use Rattle.live_tests.specs.Names.{AllDiffer}
use Rattle.common_lemmas.proofs.Lists.{from_map}

-- ---- items

-- ---- ranges

pub range_at : (a n i x : ℕ) → slice_get (range_with_len a n) i ≡ Some x → (i < n) × (x ≡ a + i)
range_at a zero i x e = absurd cc
range_at a (suc n) zero x e = let same : a ≡ x = cc in (omega arith, omega (arith, same))
range_at a (suc n) (suc i) x e = let r = range_at (a + 1) n i x e in (omega (arith, r.0), omega (arith, r.1))

module _ (a : ℕ) where
  pub at_range : (n i : ℕ) → i < n → slice_get (range_with_len a n) i ≡ Some (a + i)
  at_range n i less =
      let long = length-range_with_len a n in
      slice_get-get_or (range_with_len a n) i 0 (omega arith) ∙ ap Some (get_or-range_with_len a n i 0 less)

  pub range_differs : (n : ℕ) → AllDiffer (range_with_len a n)
  range_differs n p q x at there =
      let e = (range_at a n p x at).1 in
      let f = (range_at a n q x there).1 in
      omega arith

  -- a number more for each
  pub range_moved : (b c n : ℕ) → a + b ≡ c → map (λ (k : ℕ). a + k) (range_with_len b n) ≡ range_with_len c n
  range_moved b c zero e = refl
  range_moved b c (suc n) e =
      ap (λ l. (a + b) ∷ l) (range_moved (b + 1) (c + 1) n (omega arith)) ∙ ap (λ x. x ∷ range_with_len (c + 1) n) e

pub range_joined : (a m b k t : ℕ) → a + m ≡ b → m + k ≡ t → range_with_len a m ++ range_with_len b k ≡ range_with_len a t
range_joined a zero b k t e f =
    let same : a ≡ b = omega arith in
    let all : k ≡ t = omega arith in
    ap (λ x. range_with_len x k) (sym same) ∙ ap (range_with_len a) all
range_joined a (suc m) b k zero e f = absurd (omega arith)
range_joined a (suc m) b k (suc t) e f = ap (λ l. a ∷ l) (range_joined (a + 1) m b k t (omega arith) (omega arith))

-- ---- lists whose items differ

pub differ_append : {X : Type 0} (xs ys : List X) → AllDiffer xs → AllDiffer ys →
    ((p q : ℕ) (x : X) → slice_get xs p ≡ Some x → slice_get ys q ≡ Some x → ⊥) → AllDiffer (xs ++ ys)
differ_append {X} xs ys first second apart p q x at there = by (from_append xs ys p x at) (from_append xs ys q x there)
  where
    by : (slice_get xs p ≡ Some x) ⊎ ((j : ℕ) × (p ≡ length xs + j) × (slice_get ys j ≡ Some x)) → (slice_get xs q ≡ Some x) ⊎ ((j : ℕ) × (q ≡ length xs + j) × (slice_get ys j ≡ Some x)) → p ≡ q
    by (inl a) (inl b) = first p q x a b
    by (inl a) (inr b) = absurd (apart p b.0 x a b.2)
    by (inr a) (inl b) = absurd (apart q a.0 x b a.2)
    by (inr a) (inr b) = let same = second a.0 b.0 x a.2 b.2 in omega arith

pub differ_tail : {X : Type 0} (x : X) (xs : List X) → AllDiffer (x ∷ xs) → AllDiffer xs
differ_tail x xs differ p q y at there = let same = differ (suc p) (suc q) y at there in omega arith

-- items that differ in what is seen of them
pub differ_map : {X Y : Type 0} (f : X → Y) (xs : List X) → ((x y : X) → f x ≡ f y → x ≡ y) → AllDiffer xs → AllDiffer (map f xs)
differ_map f xs inj differ p q y at there =
    let a = from_map f xs p y at in
    let b = from_map f xs q y there in
    differ p q b.0 (a.1 ∙ ap Some (inj a.0 b.0 (a.2 ∙ sym b.2))) b.1

-- ---- sums over a range

-- what is left of p, taken s by s
pub sum_left : (p s a n : ℕ) → sum_by (λ (k : ℕ). min s (p - k * s)) (range_with_len a n) ≡ min (p - a * s) (n * s)
sum_left p s a zero = omega arith
sum_left p s a (suc n) =
    let rest = sum_left p s (a + 1) n in
    let first = sum_by-cons (λ k. min s (p - k * s)) a (range_with_len (a + 1) n) in
    omega arith

-- ---- found first

pub find_is : {X : Type 0} (p : X → Bool) (xs : List X) (i : ℕ) (x : X) → slice_get xs i ≡ Some x → p x ≡ true →
    ((j : ℕ) (y : X) → slice_get xs j ≡ Some y → p y ≡ true → j ≡ i) → find p xs ≡ Some x
find_is p [] i x at passes only = absurd cc
find_is p (y ∷ xs) zero x at passes only =
    let same : y ≡ x = cc in
    let here : p y ≡ true = rw same passes in
    rw here (ap Some same)
find_is p (y ∷ xs) (suc i) x at passes only = elim (cases_Bool (p y)) [
  | inl yes' ↦ let same : 0 ≡ suc i = only 0 y refl yes' in absurd (omega arith)
  | inr no' ↦ rw no' (find_is p xs i x at passes (λ j z there ok. let same = only (suc j) z there ok in omega arith))
]

pub find_none : {X : Type 0} (p : X → Bool) (xs : List X) → ((i : ℕ) (x : X) → slice_get xs i ≡ Some x → p x ≡ false) → find p xs ≡ None
find_none p [] none = refl
find_none p (x ∷ xs) none = rw (none 0 x refl) (find_none p xs (λ i y at. none (suc i) y at))
