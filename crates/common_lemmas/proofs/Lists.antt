-- Places, parts and sums of lists.
use Rattle.std.proofs.Common.{◌≡◌, ℕ, zero, suc, ◌+◌, ◌≤◌, ◌<◌, ◌⊎◌, Bool, true, cond, Some, List, [], ◌∷◌, ◌++◌, map, length, take, drop, set, get_or, refl, ap, sym, subst, ◌∙◌, arith, inl, inr, append_assoc, append-nil, true≢false}
use Rattle.std.specs.Prelude.{slice_get, slice_index, slice_set, slice_index_or}
use Rattle.std.specs.List.{All, Contains, sum, sum_by, count_by, flat_map, filter, find, list_all, list_any}
use Rattle.std.proofs.lemmas.Bool.{cases_Bool, cases_lt, and_parts}
use Rattle.std.proofs.lemmas.Option.{same_Some, slice_get-get_or, slice_get-map, slice_get_within, get_or_from_slice_get}
use Rattle.std.proofs.lemmas.List.{get_or_past, get_or-take, length-take, take_all, take_more, take-append-le, take-take}
use Rattle.std.proofs.lemmas.List.Sums.{get_or-le-sum_by, sum_by-cons, sum_by_more, sum_by_more_le, sum_by-take-le}
use Rattle.std.proofs.lemmas.List.Elements.{All-get_or}
use Rattle.std.proofs.lemmas.List.Concat.{flat_map-append}
use Rattle.std.proofs.lemmas.List.Folds.{fold-map}
use Rattle.std.proofs.lemmas.Grind.{common_steps}

-- what holds of all items up to a place behind the last holds of the whole list
pub all_whole : {X : Type 0} (P : X → Type 0) (xs : List X) (i : ℕ) → length xs ≤ i → All P (take i xs) → All P xs
all_whole P xs i past all = subst (λ l. All P l) (take_all i xs past) all

-- the item that was put behind a list
pub at_last : {X : Type 0} (xs : List X) (x : X) → slice_get (xs ++ x ∷ []) (length xs) ≡ Some x
at_last [] x = refl
at_last (y ∷ xs) x = at_last xs x

-- an item of the first of two lists
pub at_left : {X : Type 0} (xs ys : List X) (i : ℕ) (x : X) → slice_get xs i ≡ Some x → slice_get (xs ++ ys) i ≡ Some x
at_left [] ys i x e = absurd (cc)
at_left (y ∷ xs) ys zero x e = e
at_left (y ∷ xs) ys (suc i) x e = at_left xs ys i x e

-- the first of two lists
pub take_front : {X : Type 0} (xs ys : List X) → take (length xs) (xs ++ ys) ≡ xs
take_front xs ys = take-append-le (length xs) xs ys (omega arith) ∙ take_all (length xs) xs (omega arith)

-- what was written at a place
pub set_here : {X : Type 0} (xs : List X) (i : ℕ) (y : X) → i < length xs → slice_get (set xs i y) i ≡ Some y
set_here [] i y h = absurd (omega arith)
set_here (x ∷ xs) zero y h = refl
set_here (x ∷ xs) (suc i) y h = set_here xs i y (omega arith)

-- items up to a place, and the one there, are within the whole sum
pub taken_within : (ws : List ℕ) (b : ℕ) → sum (take b ws) + slice_index ws b ≤ sum ws
taken_within ws b = go (cases_lt b (length ws)) where
  go : (b < length ws) ⊎ (length ws ≤ b) → sum (take b ws) + slice_index ws b ≤ sum ws
  go (inl less) = sum_by_more_le (λ x. x) ws b 0 less
  go (inr past) =
      let none : slice_index ws b ≡ 0 = get_or_past ws b 0 past in
      let front : sum (take b ws) ≤ sum ws = sum_by-take-le (λ x. x) ws b in
      omega arith

-- an item that is its own default
pub slice_at : {X : Type 0} (xs : List X) (i : ℕ) (x : X) → i < length xs → x ≡ get_or xs i x → slice_get xs i ≡ Some x
slice_at xs i x h e = slice_get-get_or xs i x h ∙ ap Some (sym e)

-- there is an item at each place
pub some_item : {X : Type 0} (xs : List X) (i : ℕ) → i < length xs → (x : X) × (slice_get xs i ≡ Some x)
some_item [] i h = absurd (omega arith)
some_item (x ∷ xs) zero h = (x, refl)
some_item (x ∷ xs) (suc i) h = some_item xs i (omega arith)

-- two maps are one
pub map_twice : {X Y Z : Type 0} (f : Y → Z) (g : X → Y) (xs : List X) → map f (map g xs) ≡ map (λ x. f (g x)) xs
map_twice f g [] = refl
map_twice f g (x ∷ xs) = ap (λ v. f (g x) ∷ v) (map_twice f g xs)

-- a map over two lists
pub map_append : {X Y : Type 0} (f : X → Y) (xs ys : List X) → map f (xs ++ ys) ≡ map f xs ++ map f ys
map_append f [] ys = refl
map_append f (x ∷ xs) ys = ap (λ v. f x ∷ v) (map_append f xs ys)

-- a default behind which the list goes on is not asked
pub any_default : {X : Type 0} (xs : List X) (k : ℕ) (a b : X) → k < length xs → get_or xs k a ≡ get_or xs k b
any_default [] k a b h = absurd (omega arith)
any_default (x ∷ xs) zero a b h = refl
any_default (x ∷ xs) (suc k) a b h = any_default xs k a b (omega arith)

-- one item more
pub flat_map_push : {X Y : Type 0} (f : X → List Y) (xs : List X) (x : X) → flat_map f (xs ++ x ∷ []) ≡ flat_map f xs ++ f x
flat_map_push f [] x = append-nil (f x)
flat_map_push f (y ∷ xs) x = ap (λ v. f y ++ v) (flat_map_push f xs x) ∙ sym (append_assoc (f y) (flat_map f xs) (f x))

-- one place more: what is there stood before, or is the item of that place
pub before_or_last : (ms : List ℕ) (i m x : ℕ) → slice_get ms i ≡ Some m → Contains (take (i + 1) ms) x → Contains (take i ms) x ⊎ (x ≡ m)
before_or_last ms i m x at here =
    let within : i < length ms = slice_get_within ms i m at in
    let less : here.0 < i + 1 = omega (arith, here.1, length-take (i + 1) ms) in
    let item : get_or ms here.0 x ≡ x = sym (get_or-take (i + 1) ms here.0 x less) ∙ here.2 in
    elim (cases_lt here.0 i) [
      | inl before ↦ inl (here.0, omega (arith, length-take i ms), get_or-take i ms here.0 x before ∙ item)
      | inr last ↦
          let same : here.0 ≡ i = omega arith in
          let item' = rw same at item in
          inr (sym item' ∙ get_or_from_slice_get ms i m x at)
    ]

pub is_last : (ms : List ℕ) (i m : ℕ) → slice_get ms i ≡ Some m → Contains (take (i + 1) ms) m
is_last ms i m at =
    let within : i < length ms = slice_get_within ms i m at in
    (i, omega (arith, length-take (i + 1) ms), get_or-take (i + 1) ms i m (omega arith) ∙ get_or_from_slice_get ms i m m at)

pub is_before : (ms : List ℕ) (i m x : ℕ) → slice_get ms i ≡ Some m → Contains (take i ms) x → Contains (take (i + 1) ms) x
is_before ms i m x at here =
    let within : i < length ms = slice_get_within ms i m at in
    let less : here.0 < i = omega (arith, here.1, length-take i ms) in
    (here.0, omega (arith, length-take (i + 1) ms), get_or-take (i + 1) ms here.0 x (omega arith) ∙ sym (get_or-take i ms here.0 x less) ∙ here.2)

-- writing keeps the length
pub set_length : {X : Type 0} (xs : List X) (i : ℕ) (v : X) → length (slice_set xs i v) ≡ length xs
set_length xs i v = grind (arith, common_steps)

-- functions that agree have one sum
pub sums_agree : {X : Type 0} (f g : X → ℕ) (xs : List X) → ((x : X) → f x ≡ g x) → sum_by f xs ≡ sum_by g xs
sums_agree f g [] same = refl
sums_agree f g (x ∷ xs) same = omega (arith, sum_by-cons f x xs, sum_by-cons g x xs, same x, sums_agree f g xs same)

-- where an item was found
pub found_at : {X : Type 0} (p : X → Bool) (xs : List X) (x : X) → find p xs ≡ Some x → (k : ℕ) × (slice_get xs k ≡ Some x) × (p x ≡ true)
found_at p [] x e = absurd cc
found_at p (y ∷ xs) x e = elim (cases_Bool (p y)) [
  | inl yes' ↦ let e' = rw yes' at e in let same : y ≡ x = cc in (0, ap Some same, rw same at yes')
  | inr no' ↦ let e' = rw no' at e in let r = found_at p xs x e' in (suc r.0, r.1, r.2)
]

-- an item before a place is among those up to it
pub in_take : {X : Type 0} (xs : List X) (k n : ℕ) (x : X) → n < k → slice_get xs n ≡ Some x → slice_get (take k xs) n ≡ Some x
in_take [] k n x less at = absurd cc
in_take (y ∷ xs) zero n x less at = absurd (omega (arith, less))
in_take (y ∷ xs) (suc k) zero x less at = at
in_take (y ∷ xs) (suc k) (suc n) x less at = in_take xs k n x (omega (arith, less)) at

-- an item of a map
pub map_at : {X Y : Type 0} (g : X → Y) (xs : List X) (i : ℕ) (x : X) → slice_get xs i ≡ Some x → slice_get (map g xs) i ≡ Some (g x)
map_at g xs i x at = slice_get-map g xs i ∙ rw at refl

-- a text that was put on one that was put on another
pub joined_before : (t' t s x y : List ℕ) → t' ≡ t ++ y → t ≡ s ++ x → t' ≡ s ++ (x ++ y)
joined_before t' t s x y last first = last ∙ ap (λ l. l ++ y) first ∙ append_assoc s x y

-- at a place of the first of two lists
pub in_front : {X : Type 0} (xs ys : List X) (n : ℕ) → n < length xs → slice_get (xs ++ ys) n ≡ slice_get xs n
in_front [] ys n h = absurd (omega arith)
in_front (x ∷ xs) ys zero h = refl
in_front (x ∷ xs) ys (suc n) h = in_front xs ys n (omega arith)

-- a list of one item
pub only_one : {X : Type 0} (x y : X) (j : ℕ) → slice_get (x ∷ []) j ≡ Some y → x ≡ y
only_one x y zero e = same_Some _ _ e
only_one x y (suc j) e = absurd cc

-- lists whose items are all there
pub same_somes : {X : Type 0} (xs ys : List X) → map Some xs ≡ map Some ys → xs ≡ ys
same_somes [] [] e = refl
same_somes [] (y ∷ ys) e = cc
same_somes (x ∷ xs) [] e = cc
same_somes (x ∷ xs) (y ∷ ys) e =
    let first : Some x ≡ Some y = cc in
    let rest : map Some xs ≡ map Some ys = cc in
    ap (λ z. z ∷ xs) (same_Some x y first) ∙ ap (λ l. y ∷ l) (same_somes xs ys rest)

-- what holds of all items holds of each
pub all_at : {X : Type 0} (P : X → Type 0) (xs : List X) (n : ℕ) (x : X) → All P xs → slice_get xs n ≡ Some x → P x
all_at P xs n x all at = subst P (get_or_from_slice_get xs n x x at) (All-get_or P xs n x (slice_get_within xs n x at) all)

-- the first item of the second list
pub at_seam : {X : Type 0} (xs ys : List X) (y : X) → slice_get (xs ++ y ∷ ys) (length xs) ≡ Some y
at_seam [] ys y = refl
at_seam (x ∷ xs) ys y = at_seam xs ys y

-- an item among those up to a place
pub from_take : {X : Type 0} (xs : List X) (n m : ℕ) (x : X) → slice_get (take n xs) m ≡ Some x → (m < n) × (slice_get xs m ≡ Some x)
from_take xs zero m x at = absurd cc
from_take [] (suc n) m x at = absurd cc
from_take (y ∷ xs) (suc n) zero x at = (omega arith, at)
from_take (y ∷ xs) (suc n) (suc m) x at = let r = from_take xs n m x at in (omega (arith, r.0), r.1)

-- where a list has an item
pub contains_at : {X : Type 0} (xs : List X) (x : X) → Contains xs x → (k : ℕ) × (slice_get xs k ≡ Some x)
contains_at xs x c = (c.0, rw c.2 at (slice_get-get_or xs c.0 x c.1))

pub contains_from : {X : Type 0} (xs : List X) (x : X) (p : ℕ) → slice_get xs p ≡ Some x → Contains xs x
contains_from xs x p at = (p, slice_get_within xs p x at, get_or_from_slice_get xs p x x at)

-- what is left from a place
pub drop_at : {X : Type 0} (xs : List X) (k : ℕ) (x : X) → slice_get xs k ≡ Some x → drop k xs ≡ x ∷ drop (suc k) xs
drop_at [] k x at = absurd cc
drop_at (y ∷ xs) zero x at = let same : y ≡ x = cc in ap (λ (z : _). z ∷ xs) same
drop_at (y ∷ xs) (suc k) x at = drop_at xs k x at

-- a text that grows by the items of a list
pub flat_more : {X Y : Type 0} (f : X → List Y) (xs : List X) (i : ℕ) (d : X) (start old new : List Y) → i < length xs → old ≡ start ++ flat_map f (take i xs) → new ≡ old ++ f (get_or xs i d) → new ≡ start ++ flat_map f (take (i + 1) xs)
flat_more f xs i d start old new less so_far added =
    added ∙ ap (λ l. l ++ f (get_or xs i d)) so_far ∙ append_assoc start (flat_map f (take i xs)) (f (get_or xs i d))
    ∙ ap (λ l. start ++ (flat_map f (take i xs) ++ l)) (sym (append-nil (f (get_or xs i d))))
    ∙ ap (λ l. start ++ l) (sym (flat_map-append f (take i xs) (get_or xs i d ∷ [])))
    ∙ ap (λ l. start ++ flat_map f l) (sym (take_more xs i d less))

-- how many pass, with one item in front
pub count_cons : {X : Type 0} (p : X → Bool) (x : X) (xs : List X) → count_by p (x ∷ xs) ≡ cond (p x) 1 0 + count_by p xs
count_cons p x xs = sum_by-cons (λ y. cond (p y) 1 0) x xs

-- which item passes
pub any_at : {X : Type 0} (p : X → Bool) (xs : List X) → list_any p xs ≡ true → (i : ℕ) × (x : X) × (slice_get xs i ≡ Some x) × (p x ≡ true)
any_at p [] h = absurd (true≢false (sym h))
any_at p (x ∷ xs) h = elim (cases_Bool (p x)) [
  | inl yes' ↦ (0, x, refl, yes')
  | inr no' ↦ let h' = rw no' at h in let r = any_at p xs h' in (suc r.0, r.1, r.2, r.3)
]

-- an item of a map comes from an item
pub from_map : {X Y : Type 0} (f : X → Y) (xs : List X) (i : ℕ) (y : Y) → slice_get (map f xs) i ≡ Some y → (x : X) × (slice_get xs i ≡ Some x) × (f x ≡ y)
from_map f [] i y e = absurd cc
from_map f (x ∷ xs) zero y e = (x, refl, cc)
from_map f (x ∷ xs) (suc i) y e = from_map f xs i y e

-- an item that passes is among those that do
pub in_filter : {X : Type 0} (p : X → Bool) (xs : List X) (k : ℕ) (x : X) → slice_get xs k ≡ Some x → p x ≡ true → (n : ℕ) × (slice_get (filter p xs) n ≡ Some x)
in_filter p [] k x at passes = absurd cc
in_filter p (y ∷ xs) zero x at passes =
    let same : y ≡ x = cc in
    let here : p y ≡ true = rw same passes in
    (0, rw here at)
in_filter p (y ∷ xs) (suc k) x at passes = elim (cases_Bool (p y)) [
  | inl yes' ↦ let r = in_filter p xs k x at passes in (suc r.0, rw yes' r.1)
  | inr no' ↦ let r = in_filter p xs k x at passes in (r.0, rw no' r.1)
]

-- two items are within the whole sum
pub two_widths : (ws : List ℕ) (b b' : ℕ) → b < b' → slice_index ws b + slice_index ws b' ≤ sum ws
two_widths ws b b' less = elim (cases_lt b' (length ws)) [
  | inl within ↦
      let one : sum (take (b + 1) ws) ≡ sum (take b ws) + get_or ws b 0 = sum_by_more (λ x. x) ws b 0 (omega arith) in
      let two : sum (take (b' + 1) ws) ≡ sum (take b' ws) + get_or ws b' 0 = sum_by_more (λ x. x) ws b' 0 within in
      let front : take (b + 1) (take b' ws) ≡ take (b + 1) ws = take-take (b + 1) b' ws (omega arith) in
      let first = rw front at (sum_by-take-le (λ x. x) (take b' ws) (b + 1)) in
      let second : sum (take (b' + 1) ws) ≤ sum ws = sum_by-take-le (λ x. x) ws (b' + 1) in
      omega (arith, first)
  | inr past ↦
      let none : get_or ws b' 0 ≡ 0 = get_or_past ws b' 0 past in
      elim (cases_lt b (length ws)) [
        | inl within ↦ let one : get_or ws b 0 ≤ sum ws = get_or-le-sum_by (λ x. x) ws b 0 within in omega arith
        | inr past' ↦ let none' : get_or ws b 0 ≡ 0 = get_or_past ws b 0 past' in omega arith
      ]
]

-- where all items pass each does
pub passes_at : {X : Type 0} (p : X → Bool) (xs : List X) → list_all p xs ≡ true → (i : ℕ) (x : X) → slice_get xs i ≡ Some x → p x ≡ true
passes_at p [] h i x at = absurd cc
passes_at p (y ∷ xs) h zero x at = let same : y ≡ x = cc in rw (← same) ((and_parts (p y) (list_all p xs) h).0)
passes_at p (y ∷ xs) h (suc i) x at = passes_at p xs ((and_parts (p y) (list_all p xs) h).1) i x at

-- a sum over a map
pub sum_map : {X Y : Type 0} (f : Y → ℕ) (g : X → Y) (xs : List X) → sum_by f (map g xs) ≡ sum_by (λ x. f (g x)) xs
sum_map f g xs = fold-map (λ (s : ℕ) (y : _). s + f y) g 0 xs

-- what holds at each place holds of all
pub all_from : {X : Type 0} (P : X → Type 0) (xs : List X) → ((i : ℕ) (x : X) → slice_get xs i ≡ Some x → P x) → All P xs
all_from P xs h = λ k d lt. h k (slice_index_or xs k d) (slice_get-get_or xs k d lt)

pub joined_after : (first second third a b : List ℕ) → second ≡ first ++ a → third ≡ second ++ b → third ≡ first ++ (a ++ b)
joined_after first second third a b more most = most ∙ ap (λ t. t ++ b) more ∙ append_assoc first a b
