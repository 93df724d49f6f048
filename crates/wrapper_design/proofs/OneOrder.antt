-- The order of the scan chains: longest first, ties by place. There is one such list.
use Rattle.std.proofs.Common.{◌≡◌, ℕ, zero, suc, ◌+◌, ◌≤◌, ◌<◌, true, false, Some, List, [], ◌∷◌, ◌++◌, length, map, refl, ap, ◌∙◌, sym, arith, inl, inr, ◌⊎◌, eqb, leb, ltb, get_or}
use Rattle.std.specs.Prelude.{slice_get, slice_index}
use Rattle.std.specs.List.{sum_by, range_with_len, All}
use Rattle.std.proofs.lemmas.List.Sums.{sum_by-cons}
use Rattle.std.proofs.lemmas.Bool.{cases_Bool, cases_lt, cases_eq, lt-ltb, le-ltb, leb-true, leb-false, eqb-true, eq-eqb}
use Rattle.plan_model.proofs.Sums.{one_if}
use Rattle.plan_model.proofs.Sums.{item-le-sum_by, some_passes}
use Rattle.wrapper_design.specs.declared.order.ScanChain.{ScanChain}
use Rattle.std.proofs.lemmas.List.FromFn.{map-range_with_len_more}
use Rattle.std.proofs.lemmas.List.Sorted.{sum_by-IsPermutation, All-permutation}
use Rattle.std.proofs.Common.{zero-add}
use Rattle.std.specs.List.Sorted.{IsPermutation, IsSorted}
use Rattle.std.specs.declared.cmp.Ordering.{Ordering}
use Rattle.std.specs.Ordering.{nat_cmp, ordering_then, is_lt}
use Rattle.wrapper_design.specs.Design.{put_by_length, sort_by_length, longest_first}
use Rattle.wrapper_design.specs.Loads.{IsOrder}
use Rattle.wrapper_design.proofs.Parts.{from_put, sum_sort}
use Rattle.common_lemmas.proofs.Lists.{sum_map}
use Rattle.common_lemmas.proofs.Numbers.{not_less}

abbrev pub chain_at : List ℕ → ℕ → ScanChain
chain_at lengths k = record { length = record { 0 = slice_index lengths k }; place = k }

abbrev pub scan_chain_cmp : ScanChain → ScanChain → Ordering
scan_chain_cmp x y = ordering_then (nat_cmp y.length.0 x.length.0) (nat_cmp x.place y.place)

-- `c` may stand before `d`
pub data IsBefore (lengths : List ℕ) (c d : ℕ) : Type 0 where
  Longer : slice_index lengths d < slice_index lengths c → IsBefore lengths c d
  Tie : slice_index lengths d ≡ slice_index lengths c → c ≤ d → IsBefore lengths c d

before_trans : (lengths : List ℕ) (a b c : ℕ) → IsBefore lengths a b → IsBefore lengths b c → IsBefore lengths a c
before_trans lengths a b c (Longer p) (Longer q) = Longer (omega arith)
before_trans lengths a b c (Longer p) (Tie q r) = Longer (omega arith)
before_trans lengths a b c (Tie p r) (Longer q) = Longer (omega arith)
before_trans lengths a b c (Tie p r) (Tie q s) = Tie (omega arith) (omega arith)

both_before : (lengths : List ℕ) (a b : ℕ) → IsBefore lengths a b → IsBefore lengths b a → a ≡ b
both_before lengths a b (Longer p) (Longer q) = absurd (omega arith)
both_before lengths a b (Longer p) (Tie q r) = absurd (omega arith)
both_before lengths a b (Tie p r) (Longer q) = absurd (omega arith)
both_before lengths a b (Tie p r) (Tie q s) = omega arith

abbrev pub InOrder : List ℕ → List ℕ → Type 0
InOrder lengths [] = Unit {0}
InOrder lengths (c ∷ cs) = ((n d : ℕ) → slice_get cs n ≡ Some d → IsBefore lengths c d) × InOrder lengths cs

in_order_put : (lengths : List ℕ) (c : ℕ) (ds : List ℕ) → ((n d : ℕ) → slice_get ds n ≡ Some d → c ≤ d) → InOrder lengths ds → InOrder lengths (put_by_length lengths c ds)
unfolding put_by_length
in_order_put lengths c [] less h = (λ n d at. absurd cc, tt)
in_order_put lengths c (e ∷ ds) less h = elim (cases_Bool (leb (slice_index lengths e) (slice_index lengths c))) [
  | inl yes' ↦ rw yes' (first (here (leb-true (slice_index lengths e) (slice_index lengths c) yes')), h)
  | inr no' ↦ rw no' (λ n d at. later (leb-false (slice_index lengths e) (slice_index lengths c) no') d (from_put lengths c ds n d at), in_order_put lengths c ds (λ n d at. less (suc n) d at) h.1)
] where
  here : slice_index lengths e ≤ slice_index lengths c → IsBefore lengths c e
  here le = elim (cases_lt (slice_index lengths e) (slice_index lengths c)) [ inl longer ↦ Longer longer | inr no' ↦ Tie (omega arith) (less 0 e refl) ]

  first : IsBefore lengths c e → (n d : ℕ) → slice_get (e ∷ ds) n ≡ Some d → IsBefore lengths c d
  first b zero d at = let same : e ≡ d = cc in rw (← same) b
  first b (suc n) d at = before_trans lengths c e d b (h.0 n d at)

  later : slice_index lengths c < slice_index lengths e → (d : ℕ) → (d ≡ c) ⊎ ((k : ℕ) × (slice_get ds k ≡ Some d)) → IsBefore lengths e d
  later longer d (inl same) = let s : slice_index lengths d ≡ slice_index lengths c = ap (slice_index lengths) same in Longer (omega arith)
  later longer d (inr at) = h.0 at.0 d at.1

from_sort : (lengths : List ℕ) (i n k d : ℕ) → slice_get (sort_by_length lengths (range_with_len i n)) k ≡ Some d → i ≤ d
unfolding sort_by_length
from_sort lengths i zero k d at = absurd cc
from_sort lengths i (suc n) k d at = elim (from_put lengths i (sort_by_length lengths (range_with_len (i + 1) n)) k d at) [
  | inl same ↦ omega arith
  | inr there ↦ let ih : i + 1 ≤ d = from_sort lengths (i + 1) n there.0 d there.1 in omega arith
]

pub in_order_sort : (lengths : List ℕ) (i n : ℕ) → InOrder lengths (sort_by_length lengths (range_with_len i n))
unfolding sort_by_length
in_order_sort lengths i zero = tt
in_order_sort lengths i (suc n) =
    in_order_put lengths i (sort_by_length lengths (range_with_len (i + 1) n))
    (λ k d at. let b : i + 1 ≤ d = from_sort lengths (i + 1) n k d at in omega arith) (in_order_sort lengths (i + 1) n)

-- ---- two such lists of the same places are one

holds_first : (lengths : List ℕ) (x : ℕ) (xs : List ℕ) (y : ℕ) (ys : List ℕ) → ((f : ℕ → ℕ) → sum_by f (x ∷ xs) ≡ sum_by f (y ∷ ys)) → InOrder lengths (y ∷ ys) → (x ≡ y) ⊎ IsBefore lengths y x
holds_first lengths x xs y ys same order =
    let one : one_if (eqb x x) ≡ 1 = rw (eq-eqb x x refl) refl in
    let some : one_if (eqb x x) ≤ sum_by (λ z. one_if (eqb z x)) (x ∷ xs) = item-le-sum_by (λ z. one_if (eqb z x)) (x ∷ xs) 0 x refl in
    let r = some_passes (λ z. eqb z x) (y ∷ ys) (omega (arith, same (λ z. one_if (eqb z x)))) in
    there r.0 (r.2 ∙ ap Some (eqb-true r.1 x r.3))
  where
    there : (n : ℕ) → slice_get (y ∷ ys) n ≡ Some x → (x ≡ y) ⊎ IsBefore lengths y x
    there zero at = inl cc
    there (suc n) at = inr (order.0 n x at)

pub one_order : (lengths xs ys : List ℕ) → ((f : ℕ → ℕ) → sum_by f xs ≡ sum_by f ys) → InOrder lengths xs → InOrder lengths ys → xs ≡ ys
one_order lengths [] [] same p q = refl
one_order lengths [] (y ∷ ys) same p q = absurd (omega (arith, same (λ z. 1), sum_by-cons (λ z. 1) y ys))
one_order lengths (x ∷ xs) [] same p q = absurd (omega (arith, same (λ z. 1), sum_by-cons (λ z. 1) x xs))
one_order lengths (x ∷ xs) (y ∷ ys) same p q =
    let e : x ≡ y = elim (holds_first lengths x xs y ys same q) [
      | inl e ↦ e
      | inr b ↦ elim (holds_first lengths y ys x xs (λ f. sym (same f)) p) [ inl e ↦ sym e | inr a ↦ both_before lengths x y a b ]
    ] in
    let rest : xs ≡ ys = one_order lengths xs ys (λ f. let fe : f x ≡ f y = ap f e in omega (arith, same f, sum_by-cons f x xs, sum_by-cons f y ys)) p.1 q.1 in
    cc

-- ---- what a sort leaves

in_order_from : (lengths cs : List ℕ) → ((k c d : ℕ) → slice_get cs k ≡ Some c → slice_get cs (suc k) ≡ Some d → IsBefore lengths c d) → InOrder lengths cs
in_order_from lengths [] h = tt
in_order_from lengths (c ∷ []) h = (λ n d at. absurd cc, tt)
in_order_from lengths (c ∷ e ∷ es) h =
    let rest : InOrder lengths (e ∷ es) = in_order_from lengths (e ∷ es) (λ k c d at at'. h (suc k) c d at at') in
    (λ n d at. first (h 0 c e refl refl) rest.0 n d at, rest)
  where
    first : IsBefore lengths c e → ((n d : ℕ) → slice_get es n ≡ Some d → IsBefore lengths e d) → (n d : ℕ) → slice_get (e ∷ es) n ≡ Some d → IsBefore lengths c d
    first b later zero d at = let same : e ≡ d = cc in rw (← same) b
    first b later (suc n) d at = before_trans lengths c e d b (later n d at)

all_chain_at : (lengths ns : List ℕ) → All (λ (c : ScanChain). c.length.0 ≡ slice_index lengths c.place) (map (chain_at lengths) ns)
all_chain_at lengths [] k d h = absurd (omega arith)
all_chain_at lengths (n ∷ ns) zero d h = refl
all_chain_at lengths (n ∷ ns) (suc k) d h = all_chain_at lengths ns k d (omega arith)

places_of : (lengths ns : List ℕ) → map (λ (c : ScanChain). c.place) (map (chain_at lengths) ns) ≡ ns
places_of lengths [] = refl
places_of lengths (n ∷ ns) = ap (λ v. n ∷ v) (places_of lengths ns)

-- a place of a list of places comes from a scan chain
from_place : (ys : List ScanChain) (k c : ℕ) (d : ScanChain) → slice_get (map (λ (c : ScanChain). c.place) ys) k ≡ Some c → (k < length ys) × ((get_or ys k d).place ≡ c)
from_place [] k c d at = absurd cc
from_place (y ∷ ys) zero c d at = (omega arith, cc)
from_place (y ∷ ys) (suc k) c d at = let r = from_place ys k c d at in (omega (arith, r.0), r.1)

neighbours : (lengths : List ℕ) (ys : List ScanChain) → All (λ (c : ScanChain). c.length.0 ≡ slice_index lengths c.place) ys → IsSorted scan_chain_cmp ys → (k c d : ℕ) → slice_get (map (λ (c : ScanChain). c.place) ys) k ≡ Some c → slice_get (map (λ (c : ScanChain). c.place) ys) (suc k) ≡ Some d → IsBefore lengths c d
neighbours lengths ys all sorted k c d at at' =
    let o : ScanChain = chain_at lengths 0 in
    let x = from_place ys k c (chain_at lengths 0) at in
    let y = from_place ys (suc k) d (chain_at lengths 0) at' in
    let e : suc k ≡ k + 1 = omega arith in
    let y1 : (get_or ys (k + 1) (chain_at lengths 0)).place ≡ d = rw (← e) y.1 in
    let h = not_less (get_or ys k (chain_at lengths 0)).length.0 (get_or ys (k + 1) (chain_at lengths 0)).length.0 (get_or ys (k + 1) (chain_at lengths 0)).place (get_or ys k (chain_at lengths 0)).place (sorted k (chain_at lengths 0) (omega arith) (omega (arith, y.0))) in
    let lx : (get_or ys k (chain_at lengths 0)).length.0 ≡ slice_index lengths c = all k (chain_at lengths 0) x.0 ∙ ap (slice_index lengths) x.1 in
    let ly : (get_or ys (k + 1) (chain_at lengths 0)).length.0 ≡ slice_index lengths d = all (k + 1) (chain_at lengths 0) (omega (arith, y.0)) ∙ ap (slice_index lengths) y1 in
    elim h [
      | inl longer ↦ Longer (omega (arith, lx, ly))
      | inr tie ↦ Tie (omega (arith, lx, ly, tie.0)) (omega (arith, x.1, y1, tie.1))
    ]

pub order_from_sort : (lengths : List ℕ) (xs ys : List ScanChain) → xs ≡ map (chain_at lengths) (range_with_len 0 (length lengths)) → IsPermutation xs ys → IsSorted scan_chain_cmp ys → IsOrder lengths ys
order_from_sort lengths xs ys e perm sorted =
    let ok : All (λ (c : ScanChain). c.length.0 ≡ slice_index lengths c.place) xs = rw e (all_chain_at lengths (range_with_len 0 (length lengths))) in
    let all : All (λ (c : ScanChain). c.length.0 ≡ slice_index lengths c.place) ys = All-permutation (λ (c : ScanChain). c.length.0 ≡ slice_index lengths c.place) xs ys perm ok in
    let sums = λ (f : ℕ → ℕ).
    sum_map f (λ (c : ScanChain). c.place) ys ∙ sum_by-IsPermutation (λ (c : ScanChain). f c.place) xs ys perm ∙ sym (sum_map f (λ (c : ScanChain). c.place) xs)
    ∙ ap (sum_by f) (ap (map (λ (c : ScanChain). c.place)) e ∙ places_of lengths (range_with_len 0 (length lengths)))
    ∙ sym (sum_sort f lengths (range_with_len 0 (length lengths))) in
    record {
      places = one_order lengths (map (λ (c : ScanChain). c.place) ys) (longest_first lengths) sums (in_order_from lengths (map (λ (c : ScanChain). c.place) ys) (neighbours lengths ys all sorted)) (in_order_sort lengths 0 (length lengths));
      lengths_are = all;
    }
