-- No proper wrapper on `w` wires takes a test less than its lower time.
use Rattle.std.proofs.Common.{◌≡◌, ℕ, zero, suc, ◌+◌, ◌-◌, ◌*◌, ◌/◌, ◌≤◌, ◌<◌, max, Bool, true, false, cond, eqb, Some, List, [], ◌∷◌, ◌++◌, length, get_or, map, replicate, refl, ap, ◌∙◌, arith, zero-add, inl, inr, ◌⊎◌}
use Rattle.std.specs.Prelude.{slice_get, slice_index, if◌then◌else◌}
use Rattle.std.specs.List.{sum, sum_by, flat_map, count_by, range_with_len}
use Rattle.std.specs.List.Sorted.{IsPermutation}
use Rattle.std.proofs.lemmas.Bool.{cases_Bool, eqb-true, eq-eqb}
use Rattle.std.proofs.lemmas.List.{length-replicate, append_assoc, length_push, get_or_at, map-id}
use Rattle.std.proofs.lemmas.List.FromFn.{length-range_with_len, get_or-range_with_len}
use Rattle.std.proofs.lemmas.List.Sums.{sum_by-cons, sum_by-append}
use Rattle.std.proofs.lemmas.List.Sorted.{sum_by-IsPermutation}
use Rattle.std.proofs.Math.Nat.{mul-le-mul_right, mul-le-mul_left, div-lt_iff_lt-mul, max-le}
use Rattle.soc_model.specs.declared.Test.{Test}
use Rattle.soc_model.specs.Chips.{ModuleValue}
use Rattle.plan_model.specs.Cells.{Cell, In, Flop, Out, ChainValue, is_loaded, is_read, in_length, out_length, in_cells, out_cells, flops, dealt, scan_lengths, cells_of, chain_cells, IsProper}
use Rattle.plan_model.specs.Operations.{SelfTest, ops_of}
use Rattle.plan_model.specs.Plans.{greatest, operations_of}
use Rattle.plan_model.specs.Bounds.{quotient_up, least_length, lower_time}
use Rattle.std.proofs.lemmas.Option.{slice_get_within, get_or_from_slice_get, slice_get-get_or}
use Rattle.plan_model.proofs.Lists.{from_flat_map}
use Rattle.plan_model.proofs.OperationCounts.{ops_length}
use Rattle.plan_model.proofs.Sums.{one_if, item-le-sum_by, some_passes}
use Rattle.plan_model.proofs.CellOrder.{length-dealt}
use Rattle.plan_model.proofs.Greatest.{le-greatest, greatest-least, sum_by-le-greatest}

-- longer chains, longer tests
pub ops_mono : (setup si so si' so' p : ℕ) → 1 ≤ p → si ≤ si' → so ≤ so' → length (ops_of setup si so p) ≤ length (ops_of setup si' so' p)
ops_mono setup si so si' so' p h a b =
    let product : (1 + max si so) * p ≤ (1 + max si' so') * p = mul-le-mul_right p (omega arith) in
    omega (arith, ops_length setup si so p h, ops_length setup si' so' p h)

pub quotient_up-le : (a s w : ℕ) → 1 ≤ w → a ≤ s * w → quotient_up a w ≤ s
quotient_up-le a s w h le =
    let product : (s + 1) * w ≡ s * w + w = omega arith in
    let below : (a + (w - 1)) / w < s + 1 = (div-lt_iff_lt-mul h).1 (omega arith) in
    omega arith

-- ---- counts of cells

-- a test of cells that takes all flops, and input and output cells by `a` and `b`
pub record Counts (p : Cell → Bool) (a b : Bool) : Type 0 where
  pub ins : (k : ℕ) → p (In k) ≡ a
  pub flop : (c i : ℕ) → p (Flop c i) ≡ true
  pub outs : (k : ℕ) → p (Out k) ≡ b

-- the number where it counts
abbrev pub if_so : Bool → ℕ → ℕ
if_so a n = if a then n else 0

pub count_map : (p : Cell → Bool) (f : ℕ → Cell) (a : Bool) (same : (k : ℕ) → p (f k) ≡ a) (i n : ℕ) → count_by p (map f (range_with_len i n)) ≡ if_so a n
count_map p f true same i zero = refl
count_map p f false same i zero = refl
count_map p f true same i (suc n) =
    let ih : count_by p (map f (range_with_len (i + 1) n)) ≡ n = count_map p f true same (i + 1) n in
    sum_by-cons (λ x. cond (p x) 1 0) (f i) (map f (range_with_len (i + 1) n)) ∙ rw (same i) (omega arith)
count_map p f false same i (suc n) =
    let ih : count_by p (map f (range_with_len (i + 1) n)) ≡ 0 = count_map p f false same (i + 1) n in
    sum_by-cons (λ x. cond (p x) 1 0) (f i) (map f (range_with_len (i + 1) n)) ∙ rw (same i) (omega arith)

count_flops : (p : Cell → Bool) (a b : Bool) → Counts p a b → (lengths scans : List ℕ) → count_by p (flat_map (flops lengths) scans) ≡ sum_by (slice_index lengths) scans
count_flops p a b k lengths [] = refl
count_flops p a b k lengths (c ∷ cs) =
    let ih : count_by p (flat_map (flops lengths) cs) ≡ sum_by (slice_index lengths) cs = count_flops p a b k lengths cs in
    let here : count_by p (flops lengths c) ≡ slice_index lengths c = count_map p (λ i. Flop c i) true (k.flop c) 0 (slice_index lengths c) in
    let split : sum_by (slice_index lengths) (c ∷ cs) ≡ slice_index lengths c + sum_by (slice_index lengths) cs = sum_by-cons (slice_index lengths) c cs in
    sum_by-append (λ x. cond (p x) 1 0) (flops lengths c) (flat_map (flops lengths) cs) ∙ omega arith

pub count_cells : (p : Cell → Bool) (a b : Bool) → Counts p a b → (lengths scans : List ℕ) (i m o n : ℕ) →
    count_by p (in_cells i m ++ flat_map (flops lengths) scans ++ out_cells o n) ≡ if_so a m + sum_by (slice_index lengths) scans + if_so b n
count_cells p a b k lengths scans i m o n =
    let one : count_by p (in_cells i m) ≡ if_so a m = count_map p (λ k. In k) a k.ins i m in
    let two : count_by p (flat_map (flops lengths) scans) ≡ sum_by (slice_index lengths) scans = count_flops p a b k lengths scans in
    let three : count_by p (out_cells o n) ≡ if_so b n = count_map p (λ k. Out k) b k.outs o n in
    let split : count_by p (in_cells i m ++ flat_map (flops lengths) scans) ≡ count_by p (in_cells i m) + count_by p (flat_map (flops lengths) scans) = sum_by-append (λ x. cond (p x) 1 0) (in_cells i m) (flat_map (flops lengths) scans) in
    sum_by-append (λ x. cond (p x) 1 0) (in_cells i m ++ flat_map (flops lengths) scans) (out_cells o n) ∙ omega arith

-- all scan chains, by their places
pub sum_places : (front rest : List ℕ) → sum_by (slice_index (front ++ rest)) (range_with_len (length front) (length rest)) ≡ sum rest
sum_places front [] = refl
sum_places front (x ∷ rest) =
    let whole : List ℕ = front ++ (x ∷ rest) in
    let ih = rw (append_assoc front (x ∷ []) rest, length_push front x) at (sum_places (front ++ (x ∷ [])) rest) in
    let here : get_or (front ++ (x ∷ rest)) (length front) 0 ≡ x = get_or_at front x rest 0 (length front) refl in
    let split : sum (x ∷ rest) ≡ x + sum rest = sum_by-cons (λ x. x) x rest in
    sum_by-cons (slice_index (front ++ (x ∷ rest))) (length front) (range_with_len (length front + 1) (length rest)) ∙ omega (arith, ih)

pub count_all_chains : (p : Cell → Bool) (css : List (List Cell)) → count_by p (flat_map (λ cs. cs) css) ≡ sum_by (count_by p) css
count_all_chains p [] = refl
count_all_chains p (cs ∷ css) =
    let ih : count_by p (flat_map (λ cs. cs) css) ≡ sum_by (count_by p) css = count_all_chains p css in
    sum_by-append (λ x. cond (p x) 1 0) cs (flat_map (λ cs. cs) css) ∙ omega (arith, sum_by-cons (count_by p) cs css)

-- ---- the in-lengths or out-lengths of all chains add up to the ends and the flops

count_dealt : (p : Cell → Bool) (lengths : List ℕ) (i o : ℕ) (cs : List ChainValue) (j : ℕ) → (a b : Bool) → Counts p a b → (c : ChainValue) → slice_get cs j ≡ Some c → sum_by (slice_index lengths) c.scans ≤ count_by p (get_or (dealt lengths i o cs) j [])
count_dealt p lengths i o [] j a b k c at = absurd cc
count_dealt p lengths i o (d ∷ cs) zero a b k c at =
    let same : d ≡ c = cc in
    rw same (omega (arith, count_cells p a b k lengths c.scans i c.ins o c.outs))
count_dealt p lengths i o (d ∷ cs) (suc j) a b k c at = count_dealt p lengths (i + d.ins) (o + d.outs) cs j a b k c at

-- each number below `n` is in a list of these numbers in any order
place_listed : (n c : ℕ) (xs : List ℕ) → IsPermutation (range_with_len 0 n) xs → c < n → (i : ℕ) × (slice_get xs i ≡ Some c)
place_listed n c xs perm h =
    let all : sum_by (λ x. one_if (eqb x c)) xs ≡ sum_by (λ x. one_if (eqb x c)) (range_with_len 0 n) = sum_by-IsPermutation (λ x. one_if (eqb x c)) (range_with_len 0 n) xs perm in
    let long : length (range_with_len 0 n) ≡ n = length-range_with_len 0 n in
    let number : get_or (range_with_len 0 n) c 0 ≡ c = get_or-range_with_len 0 n c 0 h ∙ zero-add c in
    let here : slice_get (range_with_len 0 n) c ≡ Some c = slice_get-get_or (range_with_len 0 n) c 0 (omega arith) ∙ ap Some number in
    let one : one_if (eqb c c) ≡ 1 = rw (eq-eqb c c refl) refl in
    let some : one_if (eqb c c) ≤ sum_by (λ x. one_if (eqb x c)) (range_with_len 0 n) = item-le-sum_by (λ x. one_if (eqb x c)) (range_with_len 0 n) c c here in
    let r = some_passes (λ x. eqb x c) xs (omega arith) in
    (r.0, rw (eqb-true r.1 c r.3) at r.2)

-- no scan chain is longer than the longest chain
pub longest-le : (p : Cell → Bool) (a b : Bool) → Counts p a b → (m : ModuleValue) (scan : Bool) (chains : List ChainValue) → IsProper m scan chains → (c x : ℕ) → slice_get (scan_lengths m scan) c ≡ Some x → x ≤ greatest (map (count_by p) (chain_cells m scan chains))
longest-le p a b k m scan chains proper c x at =
    let q = place_listed (length (scan_lengths m scan)) c (flat_map (λ (c : ChainValue). c.scans) chains) proper.scans (slice_get_within (scan_lengths m scan) c x at) in
    let r = from_flat_map (λ (c : ChainValue). c.scans) chains q.0 c q.1 in
    let listed : slice_index (scan_lengths m scan) c ≤ sum_by (slice_index (scan_lengths m scan)) (r.1).scans = item-le-sum_by (slice_index (scan_lengths m scan)) (r.1).scans r.2 c r.4 in
    let there : slice_index (scan_lengths m scan) c ≡ x = get_or_from_slice_get (scan_lengths m scan) c x 0 at in
    let in_chain : sum_by (slice_index (scan_lengths m scan)) (r.1).scans ≤ count_by p (get_or (chain_cells m scan chains) r.0 []) = count_dealt p (scan_lengths m scan) 0 0 chains r.0 a b k r.1 r.3 in
    let most : count_by p (get_or (chain_cells m scan chains) r.0 []) ≤ greatest (map (count_by p) (chain_cells m scan chains)) = le-greatest (count_by p) [] refl (chain_cells m scan chains) r.0 in
    omega arith

pub total-is : (p : Cell → Bool) (a b : Bool) → Counts p a b → (m : ModuleValue) (scan : Bool) (chains : List ChainValue) → IsProper m scan chains →
    sum_by (count_by p) (chain_cells m scan chains) ≡ if_so a (m.inputs + m.bidirs) + sum (scan_lengths m scan) + if_so b (m.outputs + m.bidirs)
total-is p a b k m scan chains proper =
    let same : count_by p (flat_map (λ cells. cells) (chain_cells m scan chains)) ≡ count_by p (cells_of m scan) = sum_by-IsPermutation (λ x. cond (p x) 1 0) (cells_of m scan) (flat_map (λ cells. cells) (chain_cells m scan chains)) proper.cells in
    let split : count_by p (flat_map (λ cells. cells) (chain_cells m scan chains)) ≡ sum_by (count_by p) (chain_cells m scan chains) = count_all_chains p (chain_cells m scan chains) in
    let cells : count_by p (cells_of m scan) ≡ if_so a (m.inputs + m.bidirs) + sum_by (slice_index (scan_lengths m scan)) (range_with_len 0 (length (scan_lengths m scan))) + if_so b (m.outputs + m.bidirs) =
    count_cells p a b k (scan_lengths m scan) (range_with_len 0 (length (scan_lengths m scan))) 0 (m.inputs + m.bidirs) 0 (m.outputs + m.bidirs) in
    let places : sum_by (slice_index (scan_lengths m scan)) (range_with_len 0 (length (scan_lengths m scan))) ≡ sum (scan_lengths m scan) = sum_places [] (scan_lengths m scan) in
    omega arith

-- the least length is at most the longest chain
pub least_length-le : (p : Cell → Bool) (a b : Bool) → Counts p a b → (m : ModuleValue) (t : Test) (chains : List ChainValue) → IsProper m t.scan chains → (ends w : ℕ) → 1 ≤ w → length chains ≤ w →
    ends ≤ if_so a (m.inputs + m.bidirs) + if_so b (m.outputs + m.bidirs) → least_length m t ends w ≤ greatest (map (count_by p) (chain_cells m t.scan chains))
least_length-le p a b k m t chains proper ends w some few h =
    let g : ℕ = greatest (map (count_by p) (chain_cells m t.scan chains)) in
    let longest : greatest (map (λ x. x) (scan_lengths m t.scan)) ≤ greatest (map (count_by p) (chain_cells m t.scan chains)) = greatest-least (λ x. x) (greatest (map (count_by p) (chain_cells m t.scan chains))) (scan_lengths m t.scan) (λ c x at. longest-le p a b k m t.scan chains proper c x at) in
    let same : map (λ x. x) (scan_lengths m t.scan) ≡ scan_lengths m t.scan = map-id (scan_lengths m t.scan) in
    let longest' = rw same at longest in
    let sum_le : sum_by (count_by p) (chain_cells m t.scan chains) ≤ greatest (map (count_by p) (chain_cells m t.scan chains)) * length (chain_cells m t.scan chains) = sum_by-le-greatest (count_by p) (chain_cells m t.scan chains) in
    let long : length (chain_cells m t.scan chains) ≡ length chains = length-dealt (scan_lengths m t.scan) 0 0 chains in
    let wide : greatest (map (count_by p) (chain_cells m t.scan chains)) * length (chain_cells m t.scan chains) ≤ greatest (map (count_by p) (chain_cells m t.scan chains)) * w = mul-le-mul_left (greatest (map (count_by p) (chain_cells m t.scan chains))) (omega arith) in
    let total : sum_by (count_by p) (chain_cells m t.scan chains) ≡ if_so a (m.inputs + m.bidirs) + sum (scan_lengths m t.scan) + if_so b (m.outputs + m.bidirs) = total-is p a b k m t.scan chains proper in
    let up : quotient_up (ends + sum (scan_lengths m t.scan)) w ≤ greatest (map (count_by p) (chain_cells m t.scan chains)) = quotient_up-le (ends + sum (scan_lengths m t.scan)) (greatest (map (count_by p) (chain_cells m t.scan chains))) w some (omega arith) in
    max-le longest' up

pub loaded_counts : Counts is_loaded true false
loaded_counts = record { ins = λ k. refl; flop = λ c i. refl; outs = λ k. refl }

pub read_counts : Counts is_read false true
read_counts = record { ins = λ k. refl; flop = λ c i. refl; outs = λ k. refl }

-- the lower time, against the operations over a proper wrapper
pub lower_time-le : (m : ModuleValue) (t : Test) (chains : List ChainValue) (w : ℕ) → 1 ≤ t.patterns → 1 ≤ w → (t.tam ≡ true → IsProper m t.scan chains × (length chains ≤ w)) →
    lower_time m t w ≤ length (if t.tam then ops_of m.setup (greatest (map in_length (chain_cells m t.scan chains))) (greatest (map out_length (chain_cells m t.scan chains))) t.patterns else replicate t.patterns SelfTest)
unfolding lower_time
lower_time-le m t chains w live some wrapped = go (cases_Bool t.tam) where
  go : (t.tam ≡ true) ⊎ (t.tam ≡ false) → (if t.tam then length (ops_of m.setup (least_length m t (m.inputs + m.bidirs) w) (least_length m t (m.outputs + m.bidirs) w) t.patterns) else t.patterns)
      ≤ length (if t.tam then ops_of m.setup (greatest (map in_length (chain_cells m t.scan chains))) (greatest (map out_length (chain_cells m t.scan chains))) t.patterns else replicate t.patterns SelfTest)
  go (inr no') = rw (no', length-replicate t.patterns SelfTest) (omega arith)
  go (inl yes') =
      let q = wrapped yes' in
      rw yes' (ops_mono m.setup (least_length m t (m.inputs + m.bidirs) w) (least_length m t (m.outputs + m.bidirs) w) (greatest (map in_length (chain_cells m t.scan chains))) (greatest (map out_length (chain_cells m t.scan chains))) t.patterns live
      (least_length-le is_loaded true false loaded_counts m t chains q.0 (m.inputs + m.bidirs) w some q.1 (omega arith))
      (least_length-le is_read false true read_counts m t chains q.0 (m.outputs + m.bidirs) w some q.1 (omega arith)))

pub least_over_wires : (m : ModuleValue) (t : Test) (chains : List ChainValue) (w : ℕ) → t.tam ≡ true → 1 ≤ t.patterns → 1 ≤ length chains → length chains ≤ w → IsProper m t.scan chains → lower_time m t w ≤ length (operations_of m t (chain_cells m t.scan chains))
least_over_wires m t chains w tam live some few proper = lower_time-le m t chains w live (omega arith) (λ _. (proper, few))

pub least_self_test : (m : ModuleValue) (t : Test) (w : ℕ) → t.tam ≡ false → lower_time m t w ≡ t.patterns
unfolding lower_time
least_self_test m t w no' = rw no' refl
