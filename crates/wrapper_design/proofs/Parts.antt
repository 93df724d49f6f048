-- Putting scan chains on the least of some chains.
use Rattle.std.proofs.Common.{◌≡◌, ℕ, zero, suc, ◌+◌, ◌≤◌, ◌<◌, Bool, true, false, Some, List, [], ◌∷◌, ◌++◌, length, map, replicate, refl, ap, ◌∙◌, sym, arith, inl, inr, ◌⊎◌, leb}
use Rattle.std.specs.Prelude.{slice_get, slice_index, slice_set}
use Rattle.std.specs.List.{sum_by, flat_map, list_all}
use Rattle.std.specs.Option.{option_map}
use Rattle.std.proofs.lemmas.Option.{slice_get_within, get_or_from_slice_get, slice_get-map}
use Rattle.std.proofs.lemmas.List.{length-map, length-replicate, length-set}
use Rattle.std.proofs.lemmas.List.Sums.{sum_by-cons, sum_by-append}
use Rattle.std.proofs.lemmas.Bool.{cases_Bool, leb-false, false_from_ne_true, leb-true, le-leb, and_parts}
use Rattle.wrapper_design.specs.Design.{scan_length, put_by_length, sort_by_length, longest_first, put_on_least, put_all_on_least, scan_parts}
use Rattle.wrapper_design.specs.Loads.{IsFirstLeast}
use Rattle.common_lemmas.proofs.Lists.{passes_at}

-- ---- tests of all items

list_all-from : {X : Type 0} (p : X → Bool) (xs : List X) → ((k : ℕ) (x : X) → slice_get xs k ≡ Some x → p x ≡ true) → list_all p xs ≡ true
list_all-from p [] h = refl
list_all-from p (y ∷ ys) h =
    let here : p y ≡ true = h 0 y refl in
    rw here (list_all-from p ys (λ k x at. h (suc k) x at))

list_all-fails : {X : Type 0} (p : X → Bool) (xs : List X) → list_all p xs ≡ false → (k : ℕ) × (x : X) × (slice_get xs k ≡ Some x) × (p x ≡ false)
list_all-fails p [] h = absurd cc
list_all-fails p (y ∷ ys) h = elim (cases_Bool (p y)) [
  | inl yes' ↦ let r = list_all-fails p ys (rw yes' at h) in (suc r.0, r.1, r.2, r.3)
  | inr no' ↦ (0, y, refl, no')
]

-- ---- a list with one item changed

pub get_set : {X : Type 0} (xs : List X) (i : ℕ) (v : X) (k : ℕ) (q : X) → slice_get (slice_set xs i v) k ≡ Some q → ((k ≡ i) × (q ≡ v)) ⊎ (slice_get xs k ≡ Some q)
get_set [] i v k q at = inr at
get_set (x ∷ xs) zero v zero q at = inl (refl, cc)
get_set (x ∷ xs) zero v (suc k) q at = inr at
get_set (x ∷ xs) (suc i) v zero q at = inr at
get_set (x ∷ xs) (suc i) v (suc k) q at = elim (get_set xs i v k q at) [ inl h ↦ inl (ap suc h.0, h.1) | inr h ↦ inr h ]

-- ---- a chain with one scan chain more

pub push_length : (lengths part : List ℕ) (c : ℕ) → scan_length lengths (part ++ c ∷ []) ≡ scan_length lengths part + slice_index lengths c
push_length lengths part c =
    let one : scan_length lengths (c ∷ []) ≡ slice_index lengths c + 0 = sum_by-cons (slice_index lengths) c [] in
    sum_by-append (slice_index lengths) part (c ∷ []) ∙ omega arith

-- ---- where a scan chain goes

pub record PutAt (lengths : List ℕ) (c : ℕ) (ss : List (List ℕ)) : Type 0 where
  pub place : ℕ
  pub part : List ℕ
  pub at : slice_get ss place ≡ Some part
  pub is : put_on_least lengths c ss ≡ slice_set ss place (part ++ c ∷ [])
  pub least : (k : ℕ) (q : List ℕ) → slice_get ss k ≡ Some q → scan_length lengths part ≤ scan_length lengths q

below_all : (lengths s : List ℕ) (ss : List (List ℕ)) → list_all (λ r. leb (scan_length lengths s) (scan_length lengths r)) ss ≡ true → (k : ℕ) (q : List ℕ) → slice_get (s ∷ ss) k ≡ Some q → scan_length lengths s ≤ scan_length lengths q
below_all lengths s ss yes' zero q at = let same : s ≡ q = cc in let e : scan_length lengths s ≡ scan_length lengths q = ap (scan_length lengths) same in omega (arith, e)
below_all lengths s ss yes' (suc k) q at = leb-true (scan_length lengths s) (scan_length lengths q) (passes_at (λ r. leb (scan_length lengths s) (scan_length lengths r)) ss yes' k q at)

put_here : (lengths : List ℕ) (c : ℕ) (s : List ℕ) (ss : List (List ℕ)) → list_all (λ r. leb (scan_length lengths s) (scan_length lengths r)) ss ≡ true → PutAt lengths c (s ∷ ss)
unfolding put_on_least
put_here lengths c s ss yes' = record { place = 0; part = s; at = refl; is = rw yes' refl; least = below_all lengths s ss yes' }

put_later : (lengths : List ℕ) (c : ℕ) (s : List ℕ) (ss : List (List ℕ)) → list_all (λ r. leb (scan_length lengths s) (scan_length lengths r)) ss ≡ false → PutAt lengths c ss → PutAt lengths c (s ∷ ss)
unfolding put_on_least
put_later lengths c s ss no' r =
    let f = list_all-fails (λ r. leb (scan_length lengths s) (scan_length lengths r)) ss no' in
    let more : scan_length lengths f.1 < scan_length lengths s = leb-false (scan_length lengths s) (scan_length lengths f.1) f.3 in
    let less : scan_length lengths r.part ≤ scan_length lengths f.1 = r.least f.0 f.1 f.2 in
    record { place = suc r.place; part = r.part; at = r.at; is = rw no' (ap (λ v. s ∷ v) r.is); least = least_in s ss r (omega arith) }
  where
    least_in : (s : List ℕ) (ss : List (List ℕ)) (r : PutAt lengths c ss) → scan_length lengths r.part ≤ scan_length lengths s → (k : ℕ) (q : List ℕ) → slice_get (s ∷ ss) k ≡ Some q → scan_length lengths r.part ≤ scan_length lengths q
    least_in s ss r h zero q at = let same : s ≡ q = cc in let e : scan_length lengths s ≡ scan_length lengths q = ap (scan_length lengths) same in omega (arith, e)
    least_in s ss r h (suc k) q at = r.least k q at

pub put_at : (lengths : List ℕ) (c : ℕ) (s : List ℕ) (ss : List (List ℕ)) → PutAt lengths c (s ∷ ss)
put_at lengths c s [] = put_here lengths c s [] refl
put_at lengths c s (t ∷ ts) = elim (cases_Bool (list_all (λ r. leb (scan_length lengths s) (scan_length lengths r)) (t ∷ ts))) [
  | inl yes' ↦ put_here lengths c s (t ∷ ts) yes'
  | inr no' ↦ put_later lengths c s (t ∷ ts) no' (put_at lengths c t ts)
]

-- the first least chain is the one that it goes to
pub put_first : (lengths : List ℕ) (c : ℕ) (ss : List (List ℕ)) (j : ℕ) → IsFirstLeast (map (scan_length lengths) ss) j → (part : List ℕ) × (slice_get ss j ≡ Some part) × (put_on_least lengths c ss ≡ slice_set ss j (part ++ c ∷ []))
unfolding put_on_least
put_first lengths c [] j h = let none : j < 0 = h.within in absurd (omega arith)
put_first lengths c (s ∷ ss) zero h =
    let all : list_all (λ r. leb (scan_length lengths s) (scan_length lengths r)) ss ≡ true =
    list_all-from (λ r. leb (scan_length lengths s) (scan_length lengths r)) ss (λ k x at.
    let less : scan_length lengths s ≤ slice_index (map (scan_length lengths) ss) k = h.least (suc k) (short ss k x at) in
    le-leb (scan_length lengths s) (scan_length lengths x) (rw (index_map ss k x at) at less)) in
    (s, refl, rw all refl)
  where
    short : (ss : List (List ℕ)) (k : ℕ) (x : List ℕ) → slice_get ss k ≡ Some x → suc k < suc (length (map (scan_length lengths) ss))
    short ss k x at = omega (arith, slice_get_within ss k x at, length-map ss (scan_length lengths))

    index_map : (ss : List (List ℕ)) (k : ℕ) (x : List ℕ) → slice_get ss k ≡ Some x → slice_index (map (scan_length lengths) ss) k ≡ scan_length lengths x
    index_map ss k x at = get_or_from_slice_get (map (scan_length lengths) ss) k (scan_length lengths x) 0 (slice_get-map (scan_length lengths) ss k ∙ ap (option_map (scan_length lengths)) at)
put_first lengths c (s ∷ ss) (suc j) h =
    let r = put_first lengths c ss j (record { within = omega (arith, h.within); least = λ k less. h.least (suc k) (omega arith); first = λ k less. h.first (suc k) (omega arith) }) in
    let less : slice_index (map (scan_length lengths) ss) j < scan_length lengths s = h.first 0 (omega arith) in
    let there : slice_index (map (scan_length lengths) ss) j ≡ scan_length lengths r.0 = get_or_from_slice_get (map (scan_length lengths) ss) j (scan_length lengths r.0) 0 (slice_get-map (scan_length lengths) ss j ∙ ap (option_map (scan_length lengths)) r.1) in
    let fails : list_all (λ t. leb (scan_length lengths s) (scan_length lengths t)) ss ≡ false = false_from_ne_true (list_all (λ t. leb (scan_length lengths s) (scan_length lengths t)) ss) (λ all.
    let wrong : scan_length lengths s ≤ scan_length lengths r.0 = leb-true (scan_length lengths s) (scan_length lengths r.0) (passes_at (λ t. leb (scan_length lengths s) (scan_length lengths t)) ss all j r.0 r.1) in omega arith) in
    (r.0, r.1, rw fails (ap (λ v. s ∷ v) r.2))

-- ---- all scan chains: what does not depend on where they go

pub length-put : (lengths : List ℕ) (c : ℕ) (ss : List (List ℕ)) → length (put_on_least lengths c ss) ≡ length ss
unfolding put_on_least
length-put lengths c [] = refl
length-put lengths c (s ∷ ss) = let r = put_at lengths c s ss in ap length r.is ∙ length-set (s ∷ ss) r.place (r.part ++ c ∷ [])

pub length-put_all : (lengths cs : List ℕ) (ss : List (List ℕ)) → length (put_all_on_least lengths cs ss) ≡ length ss
unfolding put_all_on_least
length-put_all lengths [] ss = refl
length-put_all lengths (c ∷ cs) ss = length-put_all lengths cs (put_on_least lengths c ss) ∙ length-put lengths c ss

pub length-scan_parts : (lengths : List ℕ) (width : ℕ) → length (scan_parts lengths width) ≡ width
length-scan_parts lengths width = length-put_all lengths (longest_first lengths) (replicate width []) ∙ length-replicate width []

abbrev pub all_of : List (List ℕ) → List ℕ
all_of ss = flat_map (λ s. s) ss

sum_set : (f : ℕ → ℕ) (c : ℕ) (ss : List (List ℕ)) (j : ℕ) (p : List ℕ) → slice_get ss j ≡ Some p → sum_by f (all_of (slice_set ss j (p ++ c ∷ []))) ≡ f c + sum_by f (all_of ss)
sum_set f c [] j p at = absurd cc
sum_set f c (s ∷ ss) zero p at =
    let same : s ≡ p = cc in
    let one : sum_by f (c ∷ []) ≡ f c + 0 = sum_by-cons f c [] in
    let new : sum_by f ((p ++ c ∷ []) ++ all_of ss) ≡ sum_by f (p ++ c ∷ []) + sum_by f (all_of ss) = sum_by-append f (p ++ c ∷ []) (all_of ss) in
    let part : sum_by f (p ++ c ∷ []) ≡ sum_by f p + sum_by f (c ∷ []) = sum_by-append f p (c ∷ []) in
    let old : sum_by f (p ++ all_of ss) ≡ sum_by f p + sum_by f (all_of ss) = sum_by-append f p (all_of ss) in
    rw same (omega arith)
sum_set f c (s ∷ ss) (suc j) p at =
    let ih : sum_by f (all_of (slice_set ss j (p ++ c ∷ []))) ≡ f c + sum_by f (all_of ss) = sum_set f c ss j p at in
    let new : sum_by f (s ++ all_of (slice_set ss j (p ++ c ∷ []))) ≡ sum_by f s + sum_by f (all_of (slice_set ss j (p ++ c ∷ []))) = sum_by-append f s (all_of (slice_set ss j (p ++ c ∷ []))) in
    let old : sum_by f (s ++ all_of ss) ≡ sum_by f s + sum_by f (all_of ss) = sum_by-append f s (all_of ss) in
    omega arith

pub sum_put_all : (f : ℕ → ℕ) (lengths cs : List ℕ) (s : List ℕ) (ss : List (List ℕ)) → sum_by f (all_of (put_all_on_least lengths cs (s ∷ ss))) ≡ sum_by f cs + sum_by f (all_of (s ∷ ss))
unfolding put_all_on_least
sum_put_all f lengths [] s ss = omega arith
sum_put_all f lengths (c ∷ cs) s ss =
    let r = put_at lengths c s ss in
    let put : sum_by f (all_of (put_on_least lengths c (s ∷ ss))) ≡ f c + sum_by f (all_of (s ∷ ss)) = ap (λ v. sum_by f (all_of v)) r.is ∙ sum_set f c (s ∷ ss) r.place r.part r.at in
    let rest : sum_by f (all_of (put_all_on_least lengths cs (put_on_least lengths c (s ∷ ss)))) ≡ sum_by f cs + sum_by f (all_of (put_on_least lengths c (s ∷ ss))) = again (put_on_least lengths c (s ∷ ss)) (length-put lengths c (s ∷ ss)) (sum_put_all f lengths cs) in
    omega (arith, sum_by-cons f c cs)
  where
    again : (ts : List (List ℕ)) → length ts ≡ suc (length ss) → ((s : List ℕ) (ss : List (List ℕ)) → sum_by f (all_of (put_all_on_least lengths cs (s ∷ ss))) ≡ sum_by f cs + sum_by f (all_of (s ∷ ss))) → sum_by f (all_of (put_all_on_least lengths cs ts)) ≡ sum_by f cs + sum_by f (all_of ts)
    again [] long ih = absurd (omega arith)
    again (t ∷ ts) long ih = ih t ts

-- ---- the order

abbrev pub Falls : List ℕ → List ℕ → Type 0
Falls lengths [] = Unit {0}
Falls lengths (c ∷ cs) = ((n d : ℕ) → slice_get cs n ≡ Some d → slice_index lengths d ≤ slice_index lengths c) × Falls lengths cs

sum_put_by_length : (f : ℕ → ℕ) (lengths : List ℕ) (c : ℕ) (ds : List ℕ) → sum_by f (put_by_length lengths c ds) ≡ f c + sum_by f ds
unfolding put_by_length
sum_put_by_length f lengths c [] = sum_by-cons f c []
sum_put_by_length f lengths c (d ∷ ds) = elim (cases_Bool (leb (slice_index lengths d) (slice_index lengths c))) [
  | inl yes' ↦ rw yes' (sum_by-cons f c (d ∷ ds))
  | inr no' ↦ rw no' (
      let ih : sum_by f (put_by_length lengths c ds) ≡ f c + sum_by f ds = sum_put_by_length f lengths c ds in
      sum_by-cons f d (put_by_length lengths c ds) ∙ omega (arith, sum_by-cons f d ds))
]

pub sum_sort : (f : ℕ → ℕ) (lengths cs : List ℕ) → sum_by f (sort_by_length lengths cs) ≡ sum_by f cs
unfolding sort_by_length
sum_sort f lengths [] = refl
sum_sort f lengths (c ∷ cs) =
    let ih : sum_by f (sort_by_length lengths cs) ≡ sum_by f cs = sum_sort f lengths cs in
    sum_put_by_length f lengths c (sort_by_length lengths cs) ∙ omega (arith, sum_by-cons f c cs)

pub from_put : (lengths : List ℕ) (c : ℕ) (ds : List ℕ) (n d : ℕ) → slice_get (put_by_length lengths c ds) n ≡ Some d → (d ≡ c) ⊎ ((k : ℕ) × (slice_get ds k ≡ Some d))
unfolding put_by_length
from_put lengths c [] zero d at = inl cc
from_put lengths c [] (suc n) d at = absurd cc
from_put lengths c (e ∷ ds) n d at = elim (cases_Bool (leb (slice_index lengths e) (slice_index lengths c))) [
  | inl yes' ↦ first n (rw yes' at at)
  | inr no' ↦ later n (rw no' at at) (from_put lengths c ds)
] where
  first : (n : ℕ) → slice_get (c ∷ e ∷ ds) n ≡ Some d → (d ≡ c) ⊎ ((k : ℕ) × (slice_get (e ∷ ds) k ≡ Some d))
  first zero at = inl cc
  first (suc n) at = inr (n, at)

  later : (n : ℕ) → slice_get (e ∷ put_by_length lengths c ds) n ≡ Some d → ((n d : ℕ) → slice_get (put_by_length lengths c ds) n ≡ Some d → (d ≡ c) ⊎ ((k : ℕ) × (slice_get ds k ≡ Some d))) → (d ≡ c) ⊎ ((k : ℕ) × (slice_get (e ∷ ds) k ≡ Some d))
  later zero at ih = inr (0, at)
  later (suc n) at ih = elim (ih n d at) [ inl h ↦ inl h | inr h ↦ inr (suc h.0, h.1) ]

falls_put : (lengths : List ℕ) (c : ℕ) (ds : List ℕ) → Falls lengths ds → Falls lengths (put_by_length lengths c ds)
unfolding put_by_length
falls_put lengths c [] h = (λ n d at. absurd cc, tt)
falls_put lengths c (e ∷ ds) h = elim (cases_Bool (leb (slice_index lengths e) (slice_index lengths c))) [
  | inl yes' ↦ rw yes' ((λ n d at. first (leb-true (slice_index lengths e) (slice_index lengths c) yes') n d at, h))
  | inr no' ↦ rw no' ((λ n d at. later (leb-false (slice_index lengths e) (slice_index lengths c) no') d (from_put lengths c ds n d at), falls_put lengths c ds h.1))
] where
  first : slice_index lengths e ≤ slice_index lengths c → (n d : ℕ) → slice_get (e ∷ ds) n ≡ Some d → slice_index lengths d ≤ slice_index lengths c
  first le zero d at = let same : e ≡ d = cc in let s : slice_index lengths e ≡ slice_index lengths d = ap (slice_index lengths) same in omega arith
  first le (suc n) d at = omega (arith, h.0 n d at)

  later : slice_index lengths c < slice_index lengths e → (d : ℕ) → (d ≡ c) ⊎ ((k : ℕ) × (slice_get ds k ≡ Some d)) → slice_index lengths d ≤ slice_index lengths e
  later less d (inl same) = let s : slice_index lengths d ≡ slice_index lengths c = ap (slice_index lengths) same in omega arith
  later less d (inr at) = h.0 at.0 d at.1

pub falls_sort : (lengths cs : List ℕ) → Falls lengths (sort_by_length lengths cs)
unfolding sort_by_length
falls_sort lengths [] = tt
falls_sort lengths (c ∷ cs) = falls_put lengths c (sort_by_length lengths cs) (falls_sort lengths cs)
