-- Loads that are kept in a heap follow the scan lengths of the chains.
use Rattle.std.proofs.Common.{◌≡◌, ℕ, zero, suc, ◌+◌, ◌/◌, ◌≤◌, ◌<◌, max, Some, List, [], ◌∷◌, ◌++◌, length, map, take, replicate, refl, ap, ◌∙◌, sym, arith, eqb, get_or}
use Rattle.std.specs.Prelude.{slice_get, slice_index, slice_set}
use Rattle.std.specs.List.{sum_by, sum}
use Rattle.std.specs.Option.{option_map}
use Rattle.std.proofs.lemmas.Option.{slice_get_within, get_or_from_slice_get, slice_get-map, slice_get-get_or}
use Rattle.std.proofs.lemmas.List.{length-map, map-set, map-append, take_more, length-replicate}
use Rattle.std.proofs.lemmas.List.Sums.{sum_by-cons, sum_by-append, sum_by-set}
use Rattle.std.proofs.lemmas.Bool.{eqb-true, eq-eqb}
use Rattle.plan_model.specs.Plans.{greatest}
use Rattle.plan_model.proofs.Sums.{one_if, item-le-sum_by, some_passes}
use Rattle.wrapper_design.specs.declared.order.ScanChain.{ScanChain}
use Rattle.wrapper_design.specs.Design.{scan_length, put_on_least, put_all_on_least}
use Rattle.wrapper_design.specs.Loads.{IsMinHeap, IsOrder}
use Rattle.wrapper_design.proofs.Parts.{PutAt, put_at, push_length, length-put_all}
use Rattle.common_lemmas.proofs.Lists.{from_map}

pub root_least : (h : List ℕ) → IsMinHeap h → (n k : ℕ) → k < n → k < length h → slice_index h 0 ≤ slice_index h k
root_least h heap zero k less within = absurd (omega arith)
root_least h heap (suc n) zero less within = omega arith
root_least h heap (suc n) (suc k) less within =
    let up : slice_index h 0 ≤ slice_index h (k / 2) = root_least h heap n (k / 2) (omega arith) (omega arith) in
    let here : slice_index h (k / 2) ≤ slice_index h (suc k) = heap.below (k / 2) (suc k) (omega arith) (omega arith) within in
    omega arith

-- a number of one list is in another with the same sums
same_member : (xs ys : List ℕ) → ((f : ℕ → ℕ) → sum_by f xs ≡ sum_by f ys) → (i x : ℕ) → slice_get xs i ≡ Some x → (j : ℕ) × (slice_get ys j ≡ Some x)
same_member xs ys same i x at =
    let one : one_if (eqb x x) ≡ 1 = rw (eq-eqb x x refl) refl in
    let some : one_if (eqb x x) ≤ sum_by (λ z. one_if (eqb z x)) xs = item-le-sum_by (λ z. one_if (eqb z x)) xs i x at in
    let r = some_passes (λ z. eqb z x) ys (omega (arith, same (λ z. one_if (eqb z x)))) in
    (r.0, r.2 ∙ ap Some (eqb-true r.1 x r.3))

-- the heap has the scan lengths of the chains, of which this is the greatest
pub record Follows (lengths : List ℕ) (ss : List (List ℕ)) (h : List ℕ) (longest : ℕ) : Type 0 where
  pub sums : (f : ℕ → ℕ) → sum_by f h ≡ sum_by f (map (scan_length lengths) ss)
  pub greatest_is : longest ≡ greatest (map (scan_length lengths) ss)

pub greatest_set : (f : List ℕ → ℕ) (ss : List (List ℕ)) (j : ℕ) (q v : List ℕ) → slice_get ss j ≡ Some q → f q ≤ f v → greatest (map f (slice_set ss j v)) ≡ max (greatest (map f ss)) (f v)
greatest_set f [] j q v at le = absurd cc
greatest_set f (s ∷ ss) zero q v at le = let same : s ≡ q = cc in let e : f s ≡ f q = ap f same in omega arith
greatest_set f (s ∷ ss) (suc j) q v at le = let ih : greatest (map f (slice_set ss j v)) ≡ max (greatest (map f ss)) (f v) = greatest_set f ss j q v at le in omega arith

-- the least number of the heap is the scan length of the chain that comes next
root_is : (lengths : List ℕ) (c : ℕ) (ss : List (List ℕ)) (r : PutAt lengths c ss) (h : List ℕ) → IsMinHeap h → 0 < length h → ((f : ℕ → ℕ) → sum_by f h ≡ sum_by f (map (scan_length lengths) ss)) → scan_length lengths r.part ≡ slice_index h 0
root_is lengths c ss r h heap some sums =
    let part_at : slice_get (map (scan_length lengths) ss) r.place ≡ Some (scan_length lengths r.part) = slice_get-map (scan_length lengths) ss r.place ∙ ap (option_map (scan_length lengths)) r.at in
    let in_heap = same_member (map (scan_length lengths) ss) h (λ f. sym (sums f)) r.place (scan_length lengths r.part) part_at in
    let is_in : slice_index h in_heap.0 ≡ scan_length lengths r.part = get_or_from_slice_get h in_heap.0 (scan_length lengths r.part) 0 in_heap.1 in
    let within : in_heap.0 < length h = slice_get_within h in_heap.0 (scan_length lengths r.part) in_heap.1 in
    let low : slice_index h 0 ≤ slice_index h in_heap.0 = root_least h heap (suc in_heap.0) in_heap.0 (omega arith) within in
    let root_at : slice_get h 0 ≡ Some (slice_index h 0) = slice_get-get_or h 0 0 some in
    let in_parts = same_member h (map (scan_length lengths) ss) sums 0 (slice_index h 0) root_at in
    let q = from_map (scan_length lengths) ss in_parts.0 (slice_index h 0) in_parts.1 in
    let least : scan_length lengths r.part ≤ scan_length lengths q.0 = r.least in_parts.0 q.0 q.1 in
    omega (arith, q.2)

pub follow_step : (lengths : List ℕ) (c : ℕ) (s : List ℕ) (ss : List (List ℕ)) (h h' : List ℕ) (longest grown : ℕ) → IsMinHeap h → 0 < length h → Follows lengths (s ∷ ss) h longest → grown ≡ slice_index h 0 + slice_index lengths c →
    ((f : ℕ → ℕ) → sum_by f h' + f (slice_index h 0) ≡ sum_by f h + f grown) → Follows lengths (put_on_least lengths c (s ∷ ss)) h' (max longest grown)
follow_step lengths c s ss h h' longest grown heap some now is step =
    let r = put_at lengths c s ss in
    let root : scan_length lengths r.part ≡ slice_index h 0 = root_is lengths c (s ∷ ss) r h heap some now.sums in
    let new : scan_length lengths (r.part ++ c ∷ []) ≡ grown = push_length lengths r.part c ∙ omega arith in
    let within : r.place < length (s ∷ ss) = slice_get_within (s ∷ ss) r.place r.part r.at in
    let part_at : slice_index (map (scan_length lengths) (s ∷ ss)) r.place ≡ scan_length lengths r.part = get_or_from_slice_get (map (scan_length lengths) (s ∷ ss)) r.place (scan_length lengths r.part) 0 (slice_get-map (scan_length lengths) (s ∷ ss) r.place ∙ ap (option_map (scan_length lengths)) r.at) in
    rw r.is (record {
      sums = λ f.
          let e : map (scan_length lengths) (slice_set (s ∷ ss) r.place (r.part ++ c ∷ [])) ≡ slice_set (map (scan_length lengths) (s ∷ ss)) r.place (scan_length lengths (r.part ++ c ∷ [])) = map-set (scan_length lengths) (s ∷ ss) r.place (r.part ++ c ∷ []) in
          let set' : sum_by f (slice_set (map (scan_length lengths) (s ∷ ss)) r.place (scan_length lengths (r.part ++ c ∷ []))) + f (slice_index (map (scan_length lengths) (s ∷ ss)) r.place) ≡ sum_by f (map (scan_length lengths) (s ∷ ss)) + f (scan_length lengths (r.part ++ c ∷ [])) =
          sum_by-set f (map (scan_length lengths) (s ∷ ss)) r.place (scan_length lengths (r.part ++ c ∷ [])) 0 (omega (arith, length-map (s ∷ ss) (scan_length lengths))) in
          let fa : f (slice_index (map (scan_length lengths) (s ∷ ss)) r.place) ≡ f (slice_index h 0) = ap f (part_at ∙ root) in
          let fb : f (scan_length lengths (r.part ++ c ∷ [])) ≡ f grown = ap f new in
          let total : sum_by f (map (scan_length lengths) (slice_set (s ∷ ss) r.place (r.part ++ c ∷ []))) ≡ sum_by f (slice_set (map (scan_length lengths) (s ∷ ss)) r.place (scan_length lengths (r.part ++ c ∷ []))) = ap (sum_by f) e in
          omega (arith, step f, now.sums f);
      greatest_is =
          let g : greatest (map (scan_length lengths) (slice_set (s ∷ ss) r.place (r.part ++ c ∷ []))) ≡ max (greatest (map (scan_length lengths) (s ∷ ss))) (scan_length lengths (r.part ++ c ∷ [])) = greatest_set (scan_length lengths) (s ∷ ss) r.place r.part (r.part ++ c ∷ []) r.at (omega arith) in
          omega (arith, now.greatest_is);
    })

-- ---- along the order

abbrev pub parts_after : (lengths : List ℕ) (order : List ScanChain) (width k : ℕ) → List (List ℕ)
parts_after lengths order width k = put_all_on_least lengths (map (λ (c : ScanChain). c.place) (take k order)) (replicate width [])

put_all-append : (lengths cs ds : List ℕ) (ss : List (List ℕ)) → put_all_on_least lengths (cs ++ ds) ss ≡ put_all_on_least lengths ds (put_all_on_least lengths cs ss)
unfolding put_all_on_least
put_all-append lengths [] ds ss = refl
put_all-append lengths (c ∷ cs) ds ss = put_all-append lengths cs ds (put_on_least lengths c ss)

pub parts_next : (lengths : List ℕ) (order : List ScanChain) (width k : ℕ) (d : ScanChain) → k < length order → parts_after lengths order width (k + 1) ≡ put_on_least lengths (get_or order k d).place (parts_after lengths order width k)
unfolding put_all_on_least
parts_next lengths order width k d h =
    let e : take (k + 1) order ≡ take k order ++ get_or order k d ∷ [] = take_more order k d h in
    ap (λ v. put_all_on_least lengths v (replicate width [])) (ap (map (λ (c : ScanChain). c.place)) e ∙ map-append (λ (c : ScanChain). c.place) (take k order) (get_or order k d ∷ []))
    ∙ put_all-append lengths (map (λ (c : ScanChain). c.place) (take k order)) ((get_or order k d).place ∷ []) (replicate width [])

pub length-parts_after : (lengths : List ℕ) (order : List ScanChain) (width k : ℕ) → length (parts_after lengths order width k) ≡ width
length-parts_after lengths order width k = length-put_all lengths (map (λ (c : ScanChain). c.place) (take k order)) (replicate width []) ∙ length-replicate width []

pub follow_next : (lengths : List ℕ) (order : List ScanChain) (width k : ℕ) (d : ScanChain) (h h' : List ℕ) (longest grown : ℕ) → k < length order → IsOrder lengths order → 1 ≤ width → IsMinHeap h → 0 < length h →
    Follows lengths (parts_after lengths order width k) h longest → grown ≡ slice_index h 0 + (get_or order k d).length.0 → ((f : ℕ → ℕ) → sum_by f h' + f (slice_index h 0) ≡ sum_by f h + f grown) →
    Follows lengths (parts_after lengths order width (k + 1)) h' (max longest grown)
follow_next lengths order width k d h h' longest grown less is wide heap some now e step =
    rw (parts_next lengths order width k d less) (go (parts_after lengths order width k) (length-parts_after lengths order width k) now)
  where
    go : (ts : List (List ℕ)) → length ts ≡ width → Follows lengths ts h longest → Follows lengths (put_on_least lengths (get_or order k d).place ts) h' (max longest grown)
    go [] long now = absurd (omega arith)
    go (t ∷ ts) long now = follow_step lengths (get_or order k d).place t ts h h' longest grown heap some now (omega (arith, e, is.lengths_are k d less)) step

sum_zeros : (f : ℕ → ℕ) (lengths : List ℕ) (w : ℕ) → sum_by f (replicate w 0) ≡ sum_by f (map (scan_length lengths) (replicate w []))
sum_zeros f lengths zero = refl
sum_zeros f lengths (suc w) =
    let ih : sum_by f (replicate w 0) ≡ sum_by f (map (scan_length lengths) (replicate w [])) = sum_zeros f lengths w in
    omega (arith, sum_by-cons f 0 (replicate w 0), sum_by-cons f 0 (map (scan_length lengths) (replicate w [])))

pub greatest_zeros : (lengths : List ℕ) (w : ℕ) → 0 ≡ greatest (map (scan_length lengths) (replicate w []))
greatest_zeros lengths zero = refl
greatest_zeros lengths (suc w) = let ih : 0 ≡ greatest (map (scan_length lengths) (replicate w [])) = greatest_zeros lengths w in omega arith

pub follow_start : (lengths : List ℕ) (order : List ScanChain) (width : ℕ) → Follows lengths (parts_after lengths order width 0) (replicate width 0) 0
unfolding put_all_on_least
follow_start lengths order width = record { sums = λ f. sum_zeros f lengths width; greatest_is = greatest_zeros lengths width }

pub heap_start : (w : ℕ) → IsMinHeap (replicate w 0)
heap_start w = record { below = λ i c a b h. omega (arith, get_or-replicate_any w i, get_or-replicate_any w c) } where
  get_or-replicate_any : (n k : ℕ) → slice_index (replicate n 0) k ≡ 0
  get_or-replicate_any zero k = refl
  get_or-replicate_any (suc n) zero = refl
  get_or-replicate_any (suc n) (suc k) = get_or-replicate_any n k

no_sum : (w : ℕ) → sum (replicate w 0) ≡ 0
no_sum zero = refl
no_sum (suc w) = let ih : sum (replicate w 0) ≡ 0 = no_sum w in omega (arith, sum_by-cons (λ x. x) 0 (replicate w 0))

pub total_start : (h : List ℕ) (n : ℕ) → h ≡ replicate n 0 → sum h ≡ 0
total_start h n e = ap sum e ∙ no_sum n

pub total_next : (order : List ScanChain) (k : ℕ) (d : ScanChain) (h h' : List ℕ) (x grown : ℕ) → k < length order → sum h ≡ sum_by (λ (c : ScanChain). c.length.0) (take k order) → grown ≡ x + (get_or order k d).length.0 → sum h' + x ≡ sum h + grown → sum h' ≡ sum_by (λ (c : ScanChain). c.length.0) (take (k + 1) order)
total_next order k d h h' x grown less now e step =
    let t : take (k + 1) order ≡ take k order ++ get_or order k d ∷ [] = take_more order k d less in
    let s : sum_by (λ (c : ScanChain). c.length.0) (take k order ++ get_or order k d ∷ []) ≡ sum_by (λ (c : ScanChain). c.length.0) (take k order) + sum_by (λ (c : ScanChain). c.length.0) (get_or order k d ∷ []) = sum_by-append (λ (c : ScanChain). c.length.0) (take k order) (get_or order k d ∷ []) in
    rw t (omega (arith, s, sum_by-cons (λ (c : ScanChain). c.length.0) (get_or order k d) []))

pub no_lengths : (lengths : List ℕ) (w : ℕ) → replicate w 0 ≡ map (scan_length lengths) (replicate w [])
no_lengths lengths zero = refl
no_lengths lengths (suc w) = ap (λ v. 0 ∷ v) (no_lengths lengths w)

pub none_longest : (w : ℕ) → greatest (replicate w 0) ≡ 0
none_longest zero = refl
none_longest (suc w) = let ih : greatest (replicate w 0) ≡ 0 = none_longest w in omega arith

pub take_sum_bound : (order : List ScanChain) (k : ℕ) (d : ScanChain) → k < length order → sum_by (λ (c : ScanChain). c.length.0) (take k order) + (get_or order k d).length.0 ≤ sum_by (λ (c : ScanChain). c.length.0) order
take_sum_bound [] k d h = absurd (omega arith)
take_sum_bound (c ∷ cs) zero d h = omega (arith, sum_by-cons (λ (c : ScanChain). c.length.0) c cs)
take_sum_bound (c ∷ cs) (suc k) d h = omega (arith, take_sum_bound cs k d (omega arith), sum_by-cons (λ (c : ScanChain). c.length.0) c cs, sum_by-cons (λ (c : ScanChain). c.length.0) c (take k cs))
