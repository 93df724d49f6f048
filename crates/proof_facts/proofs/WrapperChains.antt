-- In a proper wrapper the scan chains stand in the wrapper chains as numbers in boxes.
use Rattle.std.proofs.Common.{◌≡◌, ℕ, zero, suc, ◌+◌, ◌≤◌, ◌<◌, Bool, false, Some, List, [], ◌∷◌, ◌++◌, map, length, get_or, refl, ap, ◌∙◌, sym, arith, inl, inr, eqb, leb}
use Rattle.std.specs.Prelude.{slice_get, slice_index, if◌then◌else◌}
use Rattle.std.specs.List.{sum_by, flat_map, count_by, range_with_len}
use Rattle.std.proofs.lemmas.Bool.{cases_Bool, lt-leb, eq-eqb, eqb-true, ne_eqb}
use Rattle.std.proofs.lemmas.List.{append_assoc, length_push, get_or_at, length-map}
use Rattle.std.proofs.lemmas.List.Sums.{sum_by-cons, sum_by-append}
use Rattle.std.proofs.lemmas.List.Sorted.{sum_by-IsPermutation}
use Rattle.soc_model.specs.Chips.{ModuleValue}
use Rattle.plan_model.specs.Cells.{Cell, ChainValue, dealt, scan_lengths, chain_cells, IsProper}
use Rattle.plan_model.specs.Plans.{greatest}
use Rattle.plan_model.proofs.LowerTimes.{Counts, count_cells}
use Rattle.plan_model.proofs.Sums.{one_if}
use Rattle.proof_facts.specs.Packed.{packed, rising}
use Rattle.proof_facts.proofs.Rising.{same_rising, length-rising}
use Rattle.proof_facts.proofs.Crowds.{second, held, beyond}
use Rattle.proof_facts.proofs.Counting.{Boxed, counting-boxed}
use Rattle.proof_facts.proofs.Averages.{averaging-boxed}
use Rattle.proof_facts.proofs.Beside.{beside-boxed}
use Rattle.common_lemmas.proofs.Lists.{sum_map}

-- the scan chains of wrapper chains: each by the place of its wrapper chain and by its length
boxed : List ℕ → ℕ → List ChainValue → List (ℕ × ℕ)
boxed lengths j [] = []
boxed lengths j (c ∷ cs) = map (λ x. (j, slice_index lengths x)) c.scans ++ boxed lengths (suc j) cs

-- ---- what a wrapper chain holds

held-own : (lengths : List ℕ) (j : ℕ) (xs : List ℕ) → held j (map (λ x. (j, slice_index lengths x)) xs) ≡ sum_by (slice_index lengths) xs
held-own lengths j [] = refl
held-own lengths j (x ∷ xs) =
    let ih : held j (map (λ x. (j, slice_index lengths x)) xs) ≡ sum_by (slice_index lengths) xs = held-own lengths j xs in
    let here : (if eqb j j then slice_index lengths x else 0) ≡ slice_index lengths x = rw (eq-eqb j j refl) refl in
    let split : held j (map (λ x. (j, slice_index lengths x)) (x ∷ xs)) ≡ (if eqb j j then slice_index lengths x else 0) + held j (map (λ x. (j, slice_index lengths x)) xs) =
    sum_by-cons (λ (p : ℕ × ℕ). if eqb p.0 j then p.1 else 0) (j, slice_index lengths x) (map (λ x. (j, slice_index lengths x)) xs) in
    omega (arith, sum_by-cons (slice_index lengths) x xs)

held-other : (lengths : List ℕ) (b j : ℕ) (xs : List ℕ) → eqb j b ≡ false → held b (map (λ x. (j, slice_index lengths x)) xs) ≡ 0
held-other lengths b j [] other = refl
held-other lengths b j (x ∷ xs) other =
    let ih : held b (map (λ x. (j, slice_index lengths x)) xs) ≡ 0 = held-other lengths b j xs other in
    let here : (if eqb j b then slice_index lengths x else 0) ≡ 0 = rw other refl in
    let split : held b (map (λ x. (j, slice_index lengths x)) (x ∷ xs)) ≡ (if eqb j b then slice_index lengths x else 0) + held b (map (λ x. (j, slice_index lengths x)) xs) =
    sum_by-cons (λ (p : ℕ × ℕ). if eqb p.0 b then p.1 else 0) (j, slice_index lengths x) (map (λ x. (j, slice_index lengths x)) xs) in
    omega arith

held-split : (lengths : List ℕ) (b j : ℕ) (c : ChainValue) (cs : List ChainValue) → held b (boxed lengths j (c ∷ cs)) ≡ held b (map (λ x. (j, slice_index lengths x)) c.scans) + held b (boxed lengths (suc j) cs)
unfolding boxed
held-split lengths b j c cs = sum_by-append (λ (p : ℕ × ℕ). if eqb p.0 b then p.1 else 0) (map (λ x. (j, slice_index lengths x)) c.scans) (boxed lengths (suc j) cs)

none_before : (lengths : List ℕ) (b j : ℕ) (cs : List ChainValue) → b < j → held b (boxed lengths j cs) ≡ 0
unfolding boxed
none_before lengths b j [] less = refl
none_before lengths b j (c ∷ cs) less =
    omega (arith, held-split lengths b j c cs, held-other lengths b j c.scans (ne_eqb j b (λ same. omega (arith, same))), none_before lengths b (suc j) cs (omega arith))

held-le : (lengths : List ℕ) (most b j : ℕ) (cs : List ChainValue) → ((i : ℕ) (c : ChainValue) → slice_get cs i ≡ Some c → sum_by (slice_index lengths) c.scans ≤ most) → held b (boxed lengths j cs) ≤ most
unfolding boxed
held-le lengths most b j [] h = omega arith
held-le lengths most b j (c ∷ cs) h = elim (cases_Bool (eqb j b)) [
  | inl yes' ↦
      let same : j ≡ b = eqb-true j b yes' in
      let own : held b (map (λ x. (j, slice_index lengths x)) c.scans) ≡ sum_by (slice_index lengths) c.scans = rw same (held-own lengths b c.scans) in
      omega (arith, held-split lengths b j c cs, h 0 c refl, none_before lengths b (suc j) cs (omega arith))
  | inr no' ↦ omega (arith, held-split lengths b j c cs, held-other lengths b j c.scans no', held-le lengths most b (suc j) cs (λ i d at. h (suc i) d at))
]

-- ---- each stands in a wrapper chain, and these are all lengths

within-own : (lengths : List ℕ) (n j : ℕ) (xs : List ℕ) → j < n → beyond n (map (λ x. (j, slice_index lengths x)) xs) ≡ 0
within-own lengths n j [] less = refl
within-own lengths n j (x ∷ xs) less =
    let ih : beyond n (map (λ x. (j, slice_index lengths x)) xs) ≡ 0 = within-own lengths n j xs less in
    let here : one_if (leb n j) ≡ 0 = rw (lt-leb n j less) refl in
    let split : beyond n (map (λ x. (j, slice_index lengths x)) (x ∷ xs)) ≡ one_if (leb n j) + beyond n (map (λ x. (j, slice_index lengths x)) xs) =
    sum_by-cons (λ (p : ℕ × ℕ). one_if (leb n p.0)) (j, slice_index lengths x) (map (λ x. (j, slice_index lengths x)) xs) in
    omega arith

none-beyond : (lengths : List ℕ) (n j : ℕ) (cs : List ChainValue) → j + length cs ≤ n → beyond n (boxed lengths j cs) ≡ 0
unfolding boxed
none-beyond lengths n j [] few = refl
none-beyond lengths n j (c ∷ cs) few =
    let split : beyond n (boxed lengths j (c ∷ cs)) ≡ beyond n (map (λ x. (j, slice_index lengths x)) c.scans) + beyond n (boxed lengths (suc j) cs) =
    sum_by-append (λ (p : ℕ × ℕ). one_if (leb n p.0)) (map (λ x. (j, slice_index lengths x)) c.scans) (boxed lengths (suc j) cs) in
    omega (arith, within-own lengths n j c.scans (omega arith), none-beyond lengths n (suc j) cs (omega arith))

sum_by-own : (lengths : List ℕ) (f : ℕ → ℕ) (j : ℕ) (xs : List ℕ) → sum_by (λ (p : ℕ × ℕ). f p.1) (map (λ x. (j, slice_index lengths x)) xs) ≡ sum_by (λ x. f (slice_index lengths x)) xs
sum_by-own lengths f j xs = sum_map (λ (p : ℕ × ℕ). f p.1) (λ x. (j, slice_index lengths x)) xs

sum_by-boxed : (lengths : List ℕ) (f : ℕ → ℕ) (j : ℕ) (cs : List ChainValue) → sum_by (λ (p : ℕ × ℕ). f p.1) (boxed lengths j cs) ≡ sum_by (λ x. f (slice_index lengths x)) (flat_map (λ (c : ChainValue). c.scans) cs)
unfolding boxed
sum_by-boxed lengths f j [] = refl
sum_by-boxed lengths f j (c ∷ cs) =
    let ih : sum_by (λ (p : ℕ × ℕ). f p.1) (boxed lengths (suc j) cs) ≡ sum_by (λ x. f (slice_index lengths x)) (flat_map (λ (c : ChainValue). c.scans) cs) = sum_by-boxed lengths f (suc j) cs in
    let a : sum_by (λ (p : ℕ × ℕ). f p.1) (boxed lengths j (c ∷ cs)) ≡ sum_by (λ (p : ℕ × ℕ). f p.1) (map (λ x. (j, slice_index lengths x)) c.scans) + sum_by (λ (p : ℕ × ℕ). f p.1) (boxed lengths (suc j) cs) =
    sum_by-append (λ (p : ℕ × ℕ). f p.1) (map (λ x. (j, slice_index lengths x)) c.scans) (boxed lengths (suc j) cs) in
    let b : sum_by (λ x. f (slice_index lengths x)) (c.scans ++ flat_map (λ (c : ChainValue). c.scans) cs) ≡ sum_by (λ x. f (slice_index lengths x)) c.scans + sum_by (λ x. f (slice_index lengths x)) (flat_map (λ (c : ChainValue). c.scans) cs) =
    sum_by-append (λ x. f (slice_index lengths x)) c.scans (flat_map (λ (c : ChainValue). c.scans) cs) in
    omega (arith, sum_by-own lengths f j c.scans)

-- all scan chains, by their places
sum_places_by : (f : ℕ → ℕ) (front rest : List ℕ) → sum_by (λ x. f (slice_index (front ++ rest) x)) (range_with_len (length front) (length rest)) ≡ sum_by f rest
sum_places_by f front [] = refl
sum_places_by f front (x ∷ rest) =
    let ih = rw (append_assoc front (x ∷ []) rest, length_push front x) at (sum_places_by f (front ++ (x ∷ [])) rest) in
    let here : get_or (front ++ (x ∷ rest)) (length front) 0 ≡ x = get_or_at front x rest 0 (length front) refl in
    let value : f (get_or (front ++ (x ∷ rest)) (length front) 0) ≡ f x = ap f here in
    let split : sum_by f (x ∷ rest) ≡ f x + sum_by f rest = sum_by-cons f x rest in
    sum_by-cons (λ x'. f (slice_index (front ++ (x ∷ rest)) x')) (length front) (range_with_len (length front + 1) (length rest)) ∙ omega (arith, ih)

same_lengths : (m : ModuleValue) (scan : Bool) (chains : List ChainValue) → IsProper m scan chains → (f : ℕ → ℕ) → sum_by f (map second (boxed (scan_lengths m scan) 0 chains)) ≡ sum_by f (scan_lengths m scan)
same_lengths m scan chains proper f =
    sum_map f second (boxed (scan_lengths m scan) 0 chains) ∙ sum_by-boxed (scan_lengths m scan) f 0 chains
    ∙ sum_by-IsPermutation (λ x. f (slice_index (scan_lengths m scan) x)) (range_with_len 0 (length (scan_lengths m scan))) (flat_map (λ (c : ChainValue). c.scans) chains) proper.scans
    ∙ sum_places_by f [] (scan_lengths m scan)

-- ---- no wrapper chain is longer than the longest

scans-le : (p : Cell → Bool) (a b : Bool) → Counts p a b → (lengths : List ℕ) (i o : ℕ) (cs : List ChainValue) (j : ℕ) (c : ChainValue) → slice_get cs j ≡ Some c →
    sum_by (slice_index lengths) c.scans ≤ greatest (map (count_by p) (dealt lengths i o cs))
scans-le p a b k lengths i o [] j c at = absurd cc
scans-le p a b k lengths i o (d ∷ cs) zero c at =
    let same : d ≡ c = cc in
    rw same (omega (arith, count_cells p a b k lengths c.scans i c.ins o c.outs))
scans-le p a b k lengths i o (d ∷ cs) (suc j) c at = omega (arith, scans-le p a b k lengths (i + d.ins) (o + d.outs) cs j c at)

-- the lengths of the scan chains are in no more boxes than there are wrapper chains
boxed-lengths : (p : Cell → Bool) (a b : Bool) → Counts p a b → (m : ModuleValue) (scan : Bool) (chains : List ChainValue) → IsProper m scan chains → (w : ℕ) → length chains ≤ w →
    Boxed (scan_lengths m scan) w (greatest (map (count_by p) (chain_cells m scan chains)))
boxed-lengths p a b counts m scan chains proper w few =
    let order : rising (map second (boxed (scan_lengths m scan) 0 chains)) ≡ rising (scan_lengths m scan) = same_rising (map second (boxed (scan_lengths m scan) 0 chains)) (scan_lengths m scan) (same_lengths m scan chains proper) in
    record {
      boxes = length chains;
      ps = boxed (scan_lengths m scan) 0 chains;
      few = few;
      inside = none-beyond (scan_lengths m scan) (length chains) 0 chains (omega arith);
      order = order;
      long = sym (length-map (boxed (scan_lengths m scan) 0 chains) second) ∙ sym (length-rising (map second (boxed (scan_lengths m scan) 0 chains))) ∙ ap length order ∙ length-rising (scan_lengths m scan);
      holds = λ box. held-le (scan_lengths m scan) (greatest (map (count_by p) (chain_cells m scan chains))) box 0 chains (λ i c at. scans-le p a b counts (scan_lengths m scan) 0 0 chains i c at);
    }

-- one of the wrapper chains is at least as long as scan chains that are packed
pub packed-le : (p : Cell → Bool) (a b : Bool) → Counts p a b → (m : ModuleValue) (scan : Bool) (chains : List ChainValue) → IsProper m scan chains → (w : ℕ) → length chains ≤ w →
    packed (scan_lengths m scan) w ≤ greatest (map (count_by p) (chain_cells m scan chains))
unfolding packed
packed-le p a b counts m scan chains proper w few =
    let most : ℕ = greatest (map (count_by p) (chain_cells m scan chains)) in
    let in_boxes : Boxed (scan_lengths m scan) w most = boxed-lengths p a b counts m scan chains proper w few in
    omega (arith, counting-boxed (scan_lengths m scan) w most in_boxes, averaging-boxed (scan_lengths m scan) w most in_boxes, beside-boxed (scan_lengths m scan) w most in_boxes)
