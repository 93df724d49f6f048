-- Where there are no fewer chains than scan chains, each scan chain has a chain of its own.
use Rattle.std.proofs.Common.{◌≡◌, ℕ, zero, suc, ◌+◌, ◌≤◌, ◌<◌, max, Bool, true, false, List, [], ◌∷◌, ◌++◌, length, map, take, replicate, ap, ◌∙◌, sym, subst, arith, eqb, get_or}
use Rattle.std.specs.Prelude.{slice_index, slice_set}
use Rattle.std.specs.List.{sum_by}
use Rattle.std.specs.Option.{option_map}
use Rattle.std.proofs.lemmas.Bool.{eqb-true}
use Rattle.std.proofs.lemmas.List.{length-map, map-set, map-append, take_more, take_all, length-set}
use Rattle.std.proofs.lemmas.List.Sums.{sum_by-cons, sum_by-set}
use Rattle.std.proofs.lemmas.Option.{slice_get_within, get_or_from_slice_get, slice_get-map}
use Rattle.plan_model.specs.Plans.{greatest}
use Rattle.plan_model.proofs.Greatest.{greatest_push}
use Rattle.plan_model.proofs.Sums.{one_if, some_passes}
use Rattle.wrapper_design.specs.declared.order.ScanChain.{ScanChain}
use Rattle.wrapper_design.specs.Design.{scan_length, put_on_least, put_all_on_least, longest_part}
use Rattle.wrapper_design.specs.Loads.{IsOrder}
use Rattle.wrapper_design.proofs.Parts.{put_at, push_length}
use Rattle.wrapper_design.proofs.Follow.{greatest_set, parts_after, parts_next, length-parts_after, greatest_zeros}
use Rattle.common_lemmas.proofs.Lists.{from_map}

-- at most `k` chains have flops, and `longest` is the greatest scan length
record Alone (lengths : List ℕ) (ss : List (List ℕ)) (k longest : ℕ) : Type 0 where
  idle : length ss ≤ k + sum_by (λ x. one_if (eqb x 0)) (map (scan_length lengths) ss)
  greatest_is : longest ≡ greatest (map (scan_length lengths) ss)

alone_step : (lengths : List ℕ) (c : ℕ) (s : List ℕ) (ss : List (List ℕ)) (k longest : ℕ) → k < length (s ∷ ss) → Alone lengths (s ∷ ss) k longest → Alone lengths (put_on_least lengths c (s ∷ ss)) (k + 1) (max longest (slice_index lengths c))
alone_step lengths c s ss k longest less is =
    let r = put_at lengths c s ss in
    let f : ℕ → ℕ = λ x. one_if (eqb x 0) in
    let loads : List ℕ = map (scan_length lengths) (s ∷ ss) in
    let some = some_passes (λ x. eqb x 0) loads (let many = is.idle in omega arith) in
    let q = from_map (scan_length lengths) (s ∷ ss) some.0 some.1 some.2 in
    let nothing : some.1 ≡ 0 = eqb-true some.1 0 some.3 in
    let root : scan_length lengths r.part ≡ 0 = omega (arith, r.least some.0 q.0 q.1, q.2, nothing) in
    let new : scan_length lengths (r.part ++ c ∷ []) ≡ slice_index lengths c = omega (arith, push_length lengths r.part c, root) in
    let within : r.place < length (s ∷ ss) = slice_get_within (s ∷ ss) r.place r.part r.at in
    let there : slice_index loads r.place ≡ scan_length lengths r.part = get_or_from_slice_get loads r.place (scan_length lengths r.part) 0 (slice_get-map (scan_length lengths) (s ∷ ss) r.place ∙ ap (option_map (scan_length lengths)) r.at) in
    rw r.is (record {
      idle =
          let e : map (scan_length lengths) (slice_set (s ∷ ss) r.place (r.part ++ c ∷ [])) ≡ slice_set loads r.place (scan_length lengths (r.part ++ c ∷ [])) = map-set (scan_length lengths) (s ∷ ss) r.place (r.part ++ c ∷ []) in
          let total = ap (sum_by f) e in
          let set' = sum_by-set f loads r.place (scan_length lengths (r.part ++ c ∷ [])) 0 (omega (arith, length-map (s ∷ ss) (scan_length lengths), within)) in
          let one : f (slice_index loads r.place) ≤ 1 = one_most (eqb (slice_index loads r.place) 0) in
          let many = is.idle in
          omega (arith, total, set', one, many, length-set (s ∷ ss) r.place (r.part ++ c ∷ []));
      greatest_is =
          let g = greatest_set (scan_length lengths) (s ∷ ss) r.place r.part (r.part ++ c ∷ []) r.at (omega (arith, root, new)) in
          let e = is.greatest_is in
          omega (arith, g, e, new);
    })
  where
    one_most : (b : Bool) → one_if b ≤ 1
    one_most true = omega arith
    one_most false = omega arith

alone_start : (lengths : List ℕ) (order : List ScanChain) (width : ℕ) → Alone lengths (parts_after lengths order width 0) 0 0
unfolding put_all_on_least
alone_start lengths order width = record {
  idle = go width;
  greatest_is = greatest_zeros lengths width;
}
  where
    go : (w : ℕ) → length (let p : List (List ℕ) = replicate w [] in p) ≤ 0 + sum_by (λ x. one_if (eqb x 0)) (map (scan_length lengths) (replicate w []))
    go zero = omega arith
    go (suc w) = omega (arith, go w, sum_by-cons (λ x. one_if (eqb x 0)) 0 (map (scan_length lengths) (replicate w [])))

abbrev greatest_of : List ScanChain → ℕ
greatest_of order = greatest (map (λ (c : ScanChain). c.length.0) order)

no_chain : ScanChain
no_chain = record { length = record { 0 = 0 }; place = 0 }

pub longest_next : (order : List ScanChain) (k : ℕ) (d : ScanChain) → k < length order → greatest_of (take (k + 1) order) ≡ max (greatest_of (take k order)) (get_or order k d).length.0
longest_next order k d less =
    ap greatest_of (take_more order k d less) ∙ ap greatest (map-append (λ (c : ScanChain). c.length.0) (take k order) (get_or order k d ∷ [])) ∙ greatest_push (map (λ (c : ScanChain). c.length.0) (take k order)) (get_or order k d).length.0

alone_after : (lengths : List ℕ) (order : List ScanChain) (width : ℕ) → IsOrder lengths order → length order ≤ width → (k : ℕ) → k ≤ length order → Alone lengths (parts_after lengths order width k) k (greatest_of (take k order))
alone_after lengths order width is few zero le = alone_start lengths order width
alone_after lengths order width is few (suc k) le =
    let less : k < length order = omega arith in
    let before = alone_after lengths order width is few k (omega arith) in
    let one : k + 1 ≡ suc k = omega arith in
    subst (λ (n : ℕ). Alone lengths (parts_after lengths order width n) n (greatest_of (take n order))) one
    (rw (parts_next lengths order width k no_chain less, longest_next order k no_chain less, is.lengths_are k no_chain less)
    (go (parts_after lengths order width k) (length-parts_after lengths order width k) before))
  where
    go : (ts : List (List ℕ)) → length ts ≡ width → Alone lengths ts k (greatest_of (take k order)) → Alone lengths (put_on_least lengths (get_or order k no_chain).place ts) (k + 1) (max (greatest_of (take k order)) (slice_index lengths (get_or order k no_chain).place))
    go [] long before = absurd (omega arith)
    go (t ∷ ts) long before = alone_step lengths (get_or order k no_chain).place t ts k (greatest_of (take k order)) (omega arith) before

pub longest_alone : (lengths : List ℕ) (order : List ScanChain) (width longest : ℕ) → IsOrder lengths order → length order ≤ width → longest ≡ greatest_of order → longest ≡ longest_part lengths width
longest_alone lengths order width longest is few longest_is =
    let all = alone_after lengths order width is few (length order) (omega arith) in
    let whole : take (length order) order ≡ order = take_all (length order) order (omega arith) in
    longest_is ∙ ap greatest_of (sym whole) ∙ all.greatest_is
    ∙ ap (λ (v : List ScanChain). greatest (map (scan_length lengths) (put_all_on_least lengths (map (λ (c : ScanChain). c.place) v) (replicate width [])))) whole
    ∙ ap (λ (v : List ℕ). greatest (map (scan_length lengths) (put_all_on_least lengths v (replicate width [])))) is.places
