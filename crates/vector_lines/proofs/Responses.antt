-- How the bits of a response are numbered.
use Rattle.std.proofs.Common.{◌≡◌, ℕ, zero, suc, ◌+◌, Bool, true, false, cond, Some, List, [], ◌∷◌, ◌++◌, length, get_or, map, take, refl, ap, ◌∙◌, sym, arith, option_map, slice_index, slice_get, flat_map, sum, sum_by, filter}
use Rattle.std.specs.List.{range_with_len}
use Rattle.std.proofs.lemmas.List.{map-append, append_assoc, length_push, get_or_at, take_at}
use Rattle.std.proofs.lemmas.List.FromFn.{length-range_with_len, get_or-range_with_len}
use Rattle.std.proofs.lemmas.List.Sums.{sum_by-cons, sum_by-append, length-filter}
use Rattle.std.proofs.lemmas.List.Sorted.{sum_by-IsPermutation}
use Rattle.std.proofs.lemmas.Option.{slice_get-map, slice_get-get_or, slice_get_within}
use Rattle.soc_model.specs.Chips.{ModuleValue}
use Rattle.plan_model.specs.Cells.{Cell, Flop, Out, ChainValue, IsProper, is_read, in_cells, out_cells, flops, cells_of, chain_cells, out_length, response_cells, IsResponseBit}
use Rattle.soc_model.specs.Modes.{scan_lengths}
use Rattle.plan_model.proofs.LowerTimes.{count_all_chains}
use Rattle.vector_lines.specs.Places.{response_place}

-- all cells of a list are read
abbrev pub AreRead : List Cell → Type 0
AreRead [] = Unit {0}
AreRead (x ∷ xs) = (is_read x ≡ true) × AreRead xs

pub read_numbered : (g : ℕ → Cell) → ((k : ℕ) → is_read (g k) ≡ true) → (i n : ℕ) → AreRead (map g (range_with_len i n))
read_numbered g each i zero = tt
read_numbered g each i (suc n) = (each i, read_numbered g each (i + 1) n)

pub range_map : {X : Type 0} (f : Cell → X) (g : ℕ → Cell) (i n : ℕ) → map f (map g (range_with_len i n)) ≡ map (λ k. f (g k)) (range_with_len i n)
range_map f g i zero = refl
range_map f g i (suc n) = ap (λ v. f (g i) ∷ v) (range_map f g (i + 1) n)

-- the chains together have as many cells that are read as a response has bits
pub response_length : (m : ModuleValue) (scan : Bool) (chains : List ChainValue) → IsProper m scan chains → sum_by out_length (chain_cells m scan chains) ≡ length (response_cells m scan)
response_length m scan chains proper =
    sym (count_all_chains is_read (chain_cells m scan chains))
    ∙ sum_by-IsPermutation (λ x. cond (is_read x) 1 0) (cells_of m scan) (flat_map (λ cells. cells) (chain_cells m scan chains)) proper.cells
    ∙ sym (length-filter is_read (cells_of m scan))

-- ---- the cells that are read, in order

filter_joined : (xs ys : List Cell) → filter is_read (xs ++ ys) ≡ filter is_read xs ++ filter is_read ys
filter_joined [] ys = refl
filter_joined (x ∷ xs) ys = by (is_read x) (filter_joined xs ys)
  where
    by : (b : Bool) → filter is_read (xs ++ ys) ≡ filter is_read xs ++ filter is_read ys → cond b (x ∷ filter is_read (xs ++ ys)) (filter is_read (xs ++ ys)) ≡ cond b (x ∷ filter is_read xs) (filter is_read xs) ++ filter is_read ys
    by true ih = ap (λ v. x ∷ v) ih
    by false ih = ih

filter_ins : (i n : ℕ) → filter is_read (in_cells i n) ≡ []
filter_ins i zero = refl
filter_ins i (suc n) = filter_ins (i + 1) n

filter_read : (xs : List Cell) → AreRead xs → filter is_read xs ≡ xs
filter_read [] read = refl
filter_read (x ∷ xs) read = rw (read.0, filter_read xs read.1) refl

read_joined : (xs ys : List Cell) → AreRead xs → AreRead ys → AreRead (xs ++ ys)
read_joined [] ys read b = b
read_joined (x ∷ xs) ys read b = (read.0, read_joined xs ys read.1 b)

pub read_flops : (lengths scans : List ℕ) → AreRead (flat_map (flops lengths) scans)
read_flops lengths [] = tt
read_flops lengths (c ∷ cs) = read_joined (flops lengths c) (flat_map (flops lengths) cs) (read_numbered (λ i. Flop c i) (λ i. refl) 0 (slice_index lengths c)) (read_flops lengths cs)

response_order : (m : ModuleValue) (scan : Bool) → response_cells m scan ≡ flat_map (flops (scan_lengths m scan)) (range_with_len 0 (length (scan_lengths m scan))) ++ out_cells 0 (m.outputs + m.bidirs)
response_order m scan =
    by (in_cells 0 (m.inputs + m.bidirs)) (flat_map (flops (scan_lengths m scan)) (range_with_len 0 (length (scan_lengths m scan)))) (out_cells 0 (m.outputs + m.bidirs))
    (filter_ins 0 (m.inputs + m.bidirs)) (read_flops (scan_lengths m scan) (range_with_len 0 (length (scan_lengths m scan)))) (read_numbered (λ k. Out k) (λ k. refl) 0 (m.outputs + m.bidirs))
  where
    by : (xs ys zs : List Cell) → filter is_read xs ≡ [] → AreRead ys → AreRead zs → filter is_read (xs ++ ys ++ zs) ≡ ys ++ zs
    by xs ys zs none a b = filter_joined (xs ++ ys) zs ∙ rw (filter_joined xs ys, none, filter_read ys a, filter_read zs b) refl

-- ---- their places are the numbers from 0 on

pub joined_range : (a m n b : ℕ) → a + m ≡ b → range_with_len a m ++ range_with_len b n ≡ range_with_len a (m + n)
joined_range a zero n b same =
    let start : b ≡ a = omega arith in
    let none : 0 + n ≡ n = omega arith in
    rw (start, none) refl
joined_range a (suc m) n b same =
    let next : suc m + n ≡ suc (m + n) = omega arith in
    rw next (ap (λ v. a ∷ v) (joined_range (a + 1) m n b (omega arith)))

pub added_range : (s i n j : ℕ) → s + i ≡ j → map (λ k. s + k) (range_with_len i n) ≡ range_with_len j n
added_range s i zero j same = refl
added_range s i (suc n) j same = rw (same, added_range s (i + 1) n (j + 1) (omega arith)) refl

flop_places : (lengths : List ℕ) (c : ℕ) → map (response_place lengths) (flops lengths c) ≡ range_with_len (sum (take c lengths)) (slice_index lengths c)
flop_places lengths c = range_map (response_place lengths) (λ i. Flop c i) 0 (slice_index lengths c) ∙ added_range (sum (take c lengths)) 0 (slice_index lengths c) (sum (take c lengths)) (omega arith)

out_places : (lengths : List ℕ) (n : ℕ) → map (response_place lengths) (out_cells 0 n) ≡ range_with_len (sum lengths) n
out_places lengths n = range_map (response_place lengths) (λ k. Out k) 0 n ∙ added_range (sum lengths) 0 n (sum lengths) (omega arith)

-- the scan chains behind the first ones
pub later_places : (front rest : List ℕ) → map (response_place (front ++ rest)) (flat_map (flops (front ++ rest)) (range_with_len (length front) (length rest))) ≡ range_with_len (sum front) (sum rest)
later_places front [] = refl
later_places front (x ∷ rest) =
    let whole : List ℕ = front ++ (x ∷ rest) in
    let ih = rw (append_assoc front (x ∷ []) rest, length_push front x) at (later_places (front ++ (x ∷ [])) rest) in
    let here = get_or_at front x rest 0 (length front) refl in
    let before = take_at front (x ∷ rest) (length front) refl in
    let more : sum (front ++ (x ∷ [])) ≡ sum front + x = omega (arith, sum_by-append (λ n. n) front (x ∷ [])) in
    let split = sum_by-cons (λ n. n) x rest in
    map-append (response_place (front ++ (x ∷ rest))) (flops (front ++ (x ∷ rest)) (length front)) (flat_map (flops (front ++ (x ∷ rest))) (range_with_len (length front + 1) (length rest)))
    ∙ rw (flop_places (front ++ (x ∷ rest)) (length front), before, here, ih, more, split) (joined_range (sum front) x (sum rest) (sum front + x) refl)

places : (m : ModuleValue) (scan : Bool) → map (response_place (scan_lengths m scan)) (response_cells m scan) ≡ range_with_len 0 (sum (scan_lengths m scan) + (m.outputs + m.bidirs))
places m scan =
    ap (map (response_place (scan_lengths m scan))) (response_order m scan)
    ∙ map-append (response_place (scan_lengths m scan)) (flat_map (flops (scan_lengths m scan)) (range_with_len 0 (length (scan_lengths m scan)))) (out_cells 0 (m.outputs + m.bidirs))
    ∙ rw (later_places [] (scan_lengths m scan), out_places (scan_lengths m scan) (m.outputs + m.bidirs)) (joined_range 0 (sum (scan_lengths m scan)) (m.outputs + m.bidirs) (sum (scan_lengths m scan)) (omega arith))

pub number_in_range : (n k : ℕ) {x : ℕ} → slice_get (range_with_len 0 n) k ≡ Some x → x ≡ k
number_in_range n k {x} at =
    let within = slice_get_within (range_with_len 0 n) k x at in
    let long = length-range_with_len 0 n in
    let number = get_or-range_with_len 0 n k 0 (omega arith) in
    let there = slice_get-get_or (range_with_len 0 n) k 0 within in
    let same : x ≡ get_or (range_with_len 0 n) k 0 = cc in
    omega arith

pub response_number : (m : ModuleValue) (scan : Bool) (x : Cell) (n : ℕ) → IsResponseBit m scan x n → response_place (scan_lengths m scan) x ≡ n
response_number m scan x n at =
    let seen : slice_get (map (response_place (scan_lengths m scan)) (response_cells m scan)) n ≡ Some (response_place (scan_lengths m scan) x) =
    slice_get-map (response_place (scan_lengths m scan)) (response_cells m scan) n ∙ ap (option_map (response_place (scan_lengths m scan))) at in
    number_in_range (sum (scan_lengths m scan) + (m.outputs + m.bidirs)) n (rw (places m scan) at seen)
