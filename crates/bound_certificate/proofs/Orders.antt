-- Lists over places that grow by one place, and the modules by their needs.
use Rattle.std.proofs.Common.{◌≡◌, ℕ, suc, ◌+◌, ◌≤◌, ◌<◌, Bool, true, false, eqb, Some, List, [], ◌∷◌, ◌++◌, length, get_or, map, refl, ap, ◌∙◌, arith, inl, inr, append_assoc, zero-add, slice_get, slice_index, nat_eq, ◌&&◌, filter, flat_map}
use Rattle.std.specs.List.{range_with_len}
use Rattle.std.proofs.lemmas.Bool.{cases_Bool, ne_eqb}
use Rattle.std.proofs.lemmas.List.{get_or-map}
use Rattle.std.proofs.lemmas.List.FromFn.{length-range_with_len, get_or-range_with_len}
use Rattle.std.proofs.lemmas.Option.{slice_get_within, get_or_from_slice_get}
use Rattle.soc_model.specs.Chips.{SocValue}
use Rattle.plan_model.specs.Bounds.{need}
use Rattle.plan_model.specs.Certificates.{has_tam_at}
use Rattle.bound_certificate.specs.Best.{places, number_at, with_need, down_from}
use Rattle.bound_certificate.specs.Needs.{need_or_zero, of_need}
use Rattle.common_lemmas.proofs.Ranges.{range_next}

cut_range : (n m : ℕ) → m ≡ n + 1 → range_with_len 0 m ≡ range_with_len 0 n ++ n ∷ []
cut_range n m is =
    let same : m ≡ suc n = omega arith in
    ap (range_with_len 0) same ∙ range_next 0 n ∙ ap (λ k. range_with_len 0 n ++ k ∷ []) (zero-add n)

map-push : {X Y : Type 0} (f : X → Y) (xs : List X) (x : X) → map f (xs ++ x ∷ []) ≡ map f xs ++ f x ∷ []
map-push f [] x = refl
map-push f (y ∷ xs) x = ap (λ r. f y ∷ r) (map-push f xs x)

filter-keep : {X : Type 0} (p : X → Bool) (xs : List X) (x : X) → p x ≡ true → filter p (xs ++ x ∷ []) ≡ filter p xs ++ x ∷ []
filter-keep p [] x yes' = rw yes' refl
filter-keep p (y ∷ xs) x yes' = elim (cases_Bool (p y)) [
  | inl here ↦ rw here (ap (λ r. y ∷ r) (filter-keep p xs x yes'))
  | inr other ↦ rw other (filter-keep p xs x yes')
]

filter-leave : {X : Type 0} (p : X → Bool) (xs : List X) (x : X) → p x ≡ false → filter p (xs ++ x ∷ []) ≡ filter p xs
filter-leave p [] x no' = rw no' refl
filter-leave p (y ∷ xs) x no' = elim (cases_Bool (p y)) [
  | inl here ↦ rw here (ap (λ r. y ∷ r) (filter-leave p xs x no'))
  | inr other ↦ rw other (filter-leave p xs x no')
]

pub next_map : {Y : Type 0} (f : ℕ → Y) (n m : ℕ) → m ≡ n + 1 → map f (range_with_len 0 m) ≡ map f (range_with_len 0 n) ++ f n ∷ []
next_map f n m is = ap (map f) (cut_range n m is) ∙ map-push f (range_with_len 0 n) n

pub next_taken : (f : ℕ → ℕ) (p : ℕ → Bool) (n m : ℕ) → m ≡ n + 1 → p n ≡ true → map f (filter p (range_with_len 0 m)) ≡ map f (filter p (range_with_len 0 n)) ++ f n ∷ []
next_taken f p n m is yes' = ap (λ r. map f (filter p r)) (cut_range n m is) ∙ ap (map f) (filter-keep p (range_with_len 0 n) n yes') ∙ map-push f (filter p (range_with_len 0 n)) n

pub next_left : (f : ℕ → ℕ) (p : ℕ → Bool) (n m : ℕ) → m ≡ n + 1 → p n ≡ false → map f (filter p (range_with_len 0 m)) ≡ map f (filter p (range_with_len 0 n))
next_left f p n m is no' = ap (λ r. map f (filter p r)) (cut_range n m is) ∙ ap (map f) (filter-leave p (range_with_len 0 n) n no')

filter-same : {X : Type 0} (p q : X → Bool) (xs : List X) → ((i : ℕ) (x : X) → slice_get xs i ≡ Some x → p x ≡ q x) → filter p xs ≡ filter q xs
filter-same p q [] same = refl
filter-same p q (x ∷ xs) same =
    let here : p x ≡ q x = same 0 x refl in
    let rest : filter p xs ≡ filter q xs = filter-same p q xs (λ i y at. same (suc i) y at) in
    elim (cases_Bool (q x)) [
      | inl yes' ↦ rw (here, yes') (ap (λ r. x ∷ r) rest)
      | inr no' ↦ rw (here, no') rest
    ]

needed-at : (soc : SocValue) (w b k place : ℕ) → 1 ≤ k → eqb (need_or_zero soc w b place) k ≡ (has_tam_at soc place && eqb (need soc w b place) k)
needed-at soc w b k place some = elim (cases_Bool (has_tam_at soc place)) [
  | inl yes' ↦ rw yes' refl
  | inr no' ↦ rw no' (ne_eqb 0 k (omega arith))
]

pub of_need_is : (soc : SocValue) (w b k : ℕ) (needs : List ℕ) → 1 ≤ k → needs ≡ map (need_or_zero soc w b) (places soc) → of_need soc needs k ≡ with_need soc w b k
of_need_is soc w b k needs some is =
    ap (map (number_at soc)) (filter-same (λ place. nat_eq (slice_index needs place) k) (λ place. has_tam_at soc place && nat_eq (need soc w b place) k) (places soc) each)
  where
    each : (i x : ℕ) → slice_get (places soc) i ≡ Some x → eqb (slice_index needs x) k ≡ (has_tam_at soc x && eqb (need soc w b x) k)
    each i x at =
        let n : ℕ = length soc.modules in
        let within : i < length soc.modules = omega (arith, slice_get_within (places soc) i x at, length-range_with_len 0 (length soc.modules)) in
        let number : get_or (places soc) i 0 ≡ 0 + i = get_or-range_with_len 0 (length soc.modules) i 0 within in
        let here : x ≡ i = omega (arith, get_or_from_slice_get (places soc) i x 0 at) in
        let value : slice_index (map (need_or_zero soc w b) (places soc)) i ≡ need_or_zero soc w b (get_or (places soc) i 0) = get_or-map (need_or_zero soc w b) (places soc) i 0 0 (omega (arith, length-range_with_len 0 (length soc.modules))) in
        let item : get_or (places soc) i 0 ≡ x = get_or_from_slice_get (places soc) i x 0 at in
        let value' = rw (item, ← here) at value in
        rw (is, value') (needed-at soc w b k x some)

-- one more need
pub next_need : (f : ℕ → List ℕ) (k j : ℕ) (order new all : List ℕ) → k ≡ j + 1 → order ++ flat_map f (down_from k) ≡ all → new ≡ order ++ f k → new ++ flat_map f (down_from j) ≡ all
next_need f k j order new all is so_far pushed =
    let same : k ≡ suc j = omega arith in
    let so_far' = rw same at so_far in
    let pushed' = rw same at pushed in
    rw pushed' (append_assoc order (f (suc j)) (flat_map f (down_from j)) ∙ so_far')
