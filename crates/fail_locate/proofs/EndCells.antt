-- The cells of a chain, from its end.
use Rattle.std.proofs.Common.{◌≡◌, ℕ, zero, suc, ◌+◌, ◌-◌, ◌^◌, ◌≤◌, ◌<◌, Option, None, Some, List, [], ◌∷◌, ◌++◌, length, get_or, map, take, reverse, option_map, refl, ap, sym, subst, ◌∙◌, arith, append_assoc, append-nil, Bool, slice_get, slice_index, sum_by, flat_map}
use Rattle.std.specs.List.{range_with_len}
use Rattle.std.proofs.lemmas.Grind.{flat_map-append}
use Rattle.std.proofs.lemmas.List.{length-append, length-map, length-reverse, reverse-append, get_or-reverse, get_or-map, get_or_past, take_more}
use Rattle.std.proofs.lemmas.List.FromFn.{get_or-map-range_with_len, length-range_with_len}
use Rattle.std.proofs.lemmas.List.Sums.{sum_by-cons}
use Rattle.std.proofs.lemmas.Option.{slice_get_within, slice_get-get_or}
use Rattle.soc_model.specs.Chips.{ModuleValue}
use Rattle.plan_model.specs.Cells.{Cell, IsProper, Flop, Out, in_cells, out_cells, flops, dealt, chain_cells, out_length, scan_lengths}
use Rattle.plan_model.specs.Listing.{module_size}
use Rattle.plan_model.specs.Views.{chain_value}
use Rattle.plan_model.specs.declared.ChainPlan.{ChainPlan}
use Rattle.plan_model.proofs.ChainLengths.{outs_and_flops, flops_in, out_lengths}
use Rattle.plan_model.proofs.CellOrder.{length-dealt}
use Rattle.plan_model.proofs.ProperByCounts.{IsCounted, proper_is_counted}
use Rattle.fail_locate.specs.declared.Cell.{Cell as FoundCell}
use Rattle.fail_locate.specs.Spots.{cell_value}
use Rattle.fail_locate.specs.Chains.{IsFromEnd, cells_at}
use Rattle.common_lemmas.proofs.Lists.{in_front}

-- ---- places in joined and turned lists

behind_front : {X : Type 0} (xs ys : List X) (n k : ℕ) → n ≡ length xs + k → slice_get (xs ++ ys) n ≡ slice_get ys k
behind_front [] ys n k e = let same : n ≡ k = omega arith in rw same refl
behind_front (x ∷ xs) ys zero k e = absurd (omega arith)
behind_front (x ∷ xs) ys (suc n) k e = behind_front xs ys n k (omega arith)

no_item : {X : Type 0} (xs : List X) (n : ℕ) → slice_get xs n ≡ None → length xs ≤ n
no_item [] n e = omega arith
no_item (x ∷ xs) zero e = absurd cc
no_item (x ∷ xs) (suc n) e = let rest = no_item xs n e in omega arith

-- cells by number, from the last one
numbered_from_end : (f : ℕ → Cell) (from n s number : ℕ) → s < n → number ≡ from + (n - 1 - s) → slice_get (reverse (map f (range_with_len from n))) s ≡ Some (f number)
numbered_from_end f from n s number h e =
    let long : length (map f (range_with_len from n)) ≡ n = length-map (range_with_len from n) f ∙ length-range_with_len from n in
    let long' : length (reverse (map f (range_with_len from n))) ≡ n = length-reverse (map f (range_with_len from n)) ∙ long in
    let place : length (map f (range_with_len from n)) - 1 - s ≡ n - 1 - s = omega arith in
    slice_get-get_or (reverse (map f (range_with_len from n))) s (f number) (omega arith)
    ∙ ap Some (get_or-reverse (map f (range_with_len from n)) s (f number) (omega arith) ∙ rw place (get_or-map-range_with_len f from n (n - 1 - s) number (f number) (omega arith) (sym e)))

-- ---- scan chains from the last one

-- the cells of the first scan chains, from their end
abbrev pub turned : (lengths scans : List ℕ) → ℕ → List Cell
turned lengths scans k = reverse (flat_map (flops lengths) (take k scans))

one_less : (lengths scans : List ℕ) (k d : ℕ) → k < length scans → turned lengths scans (k + 1) ≡ reverse (flops lengths (get_or scans k d)) ++ turned lengths scans k
one_less lengths scans k d h =
    ap (λ xs. reverse (flat_map (flops lengths) xs)) (take_more scans k d h)
    ∙ ap reverse (flat_map-append (flops lengths) (take k scans) (get_or scans k d ∷ []) ∙ ap (λ xs. flat_map (flops lengths) (take k scans) ++ xs) (append-nil (flops lengths (get_or scans k d))))
    ∙ reverse-append (flat_map (flops lengths) (take k scans)) (flops lengths (get_or scans k d))

flops_long : (lengths : List ℕ) (c : ℕ) → length (reverse (flops lengths c)) ≡ slice_index lengths c
flops_long lengths c = length-reverse (flops lengths c) ∙ length-map (range_with_len 0 (slice_index lengths c)) (λ i. Flop c i) ∙ length-range_with_len 0 (slice_index lengths c)

-- a cell of the last scan chain
pub flop_here : (lengths scans : List ℕ) (k n c left place : ℕ) (whole : Option Cell) → n ≡ k + 1 → k < length scans → c ≡ get_or scans k 0 → left < slice_index lengths c → place ≡ slice_index lengths c - 1 - left → slice_get (turned lengths scans n) left ≡ whole → Some (Flop c place) ≡ whole
flop_here lengths scans k n c left place whole next within at less is e =
    let chain : get_or scans k 0 ≡ c = sym at in
    let long : length (reverse (flops lengths c)) ≡ slice_index lengths c = flops_long lengths c in
    sym (numbered_from_end (λ i. Flop c i) 0 (slice_index lengths c) left place less (omega arith))
    ∙ sym (in_front (reverse (flops lengths c)) (turned lengths scans k) left (omega arith))
    ∙ ap (λ xs. slice_get xs left) (sym (ap (turned lengths scans) next ∙ one_less lengths scans k 0 within ∙ ap (λ c. reverse (flops lengths c) ++ turned lengths scans k) chain))
    ∙ e

-- or one of those before it
pub flop_before : (lengths scans : List ℕ) (k n c left less : ℕ) (whole : Option Cell) → n ≡ k + 1 → k < length scans → c ≡ get_or scans k 0 → left ≡ slice_index lengths c + less → slice_get (turned lengths scans n) left ≡ whole → slice_get (turned lengths scans k) less ≡ whole
flop_before lengths scans k n c left less whole next within at is e =
    let chain : get_or scans k 0 ≡ c = sym at in
    let long : length (reverse (flops lengths c)) ≡ slice_index lengths c = flops_long lengths c in
    sym (behind_front (reverse (flops lengths c)) (turned lengths scans k) left less (omega arith))
    ∙ ap (λ xs. slice_get xs left) (sym (ap (turned lengths scans) next ∙ one_less lengths scans k 0 within ∙ ap (λ c. reverse (flops lengths c) ++ turned lengths scans k) chain))
    ∙ e

-- ---- the cells of a chain that are read

-- flops, and output cells from `o` on
abbrev pub read_cells : (lengths scans : List ℕ) (o outs : ℕ) → List Cell
read_cells lengths scans o outs = flat_map (flops lengths) scans ++ out_cells o outs

turned_read : (lengths scans : List ℕ) (o outs : ℕ) → reverse (read_cells lengths scans o outs) ≡ reverse (out_cells o outs) ++ reverse (flat_map (flops lengths) scans)
turned_read lengths scans o outs = reverse-append (flat_map (flops lengths) scans) (out_cells o outs)

outs_long : (o outs : ℕ) → length (reverse (out_cells o outs)) ≡ outs
outs_long o outs = length-reverse (out_cells o outs) ∙ length-map (range_with_len o outs) (λ k. Out k) ∙ length-range_with_len o outs

pub out_here : (lengths scans : List ℕ) (o outs s number : ℕ) → s < outs → number ≡ o + (outs - 1 - s) → Some (Out number) ≡ slice_get (reverse (read_cells lengths scans o outs)) s
out_here lengths scans o outs s number h e =
    let long : length (reverse (out_cells o outs)) ≡ outs = outs_long o outs in
    sym (numbered_from_end (λ k. Out k) o outs s number h e)
    ∙ sym (in_front (reverse (out_cells o outs)) (reverse (flat_map (flops lengths) scans)) s (omega arith))
    ∙ ap (λ xs. slice_get xs s) (sym (turned_read lengths scans o outs))

pub flop_there : (lengths scans : List ℕ) (o outs s left : ℕ) (r : Option Cell) → s ≡ outs + left → r ≡ slice_get (reverse (flat_map (flops lengths) scans)) left → r ≡ slice_get (reverse (read_cells lengths scans o outs)) s
flop_there lengths scans o outs s left r e is =
    let long : length (reverse (out_cells o outs)) ≡ outs = outs_long o outs in
    is
    ∙ sym (behind_front (reverse (out_cells o outs)) (reverse (flat_map (flops lengths) scans)) s left (omega arith))
    ∙ ap (λ xs. slice_get xs s) (sym (turned_read lengths scans o outs))

-- ---- a chain of a wrapper

-- the cells of a chain: some that are not read, and then those that are
record AtChain (lengths : List ℕ) (o : ℕ) (c : ChainPlan) (cells : List Cell) : Type 0 where
  pub ins : List Cell
  pub is : cells ≡ ins ++ read_cells lengths c.scans.items o c.outs

at_chain : (lengths : List ℕ) (i o : ℕ) (cs : List ChainPlan) (j : ℕ) (c : ChainPlan) → slice_get cs j ≡ Some c → AtChain lengths (o + sum_by (λ (c : ChainPlan). c.outs) (take j cs)) c (get_or (dealt lengths i o (map chain_value cs)) j [])
at_chain lengths i o [] j c at = absurd cc
at_chain lengths i o (d ∷ cs) zero c at =
    let same : d ≡ c = cc in
    let number : o + sum_by (λ (c : ChainPlan). c.outs) [] ≡ o = omega arith in
    rw (number, ← same) (record { ins = in_cells i d.ins; is = append_assoc (in_cells i d.ins) (flat_map (flops lengths) d.scans.items) (out_cells o d.outs) })
at_chain lengths i o (d ∷ cs) (suc j) c at =
    let r : AtChain lengths (o + d.outs + sum_by (λ (c : ChainPlan). c.outs) (take j cs)) c (get_or (dealt lengths (i + d.ins) (o + d.outs) (map chain_value cs)) j []) = at_chain lengths (i + d.ins) (o + d.outs) cs j c at in
    let number : o + sum_by (λ (c : ChainPlan). c.outs) (d ∷ take j cs) ≡ o + d.outs + sum_by (λ (c : ChainPlan). c.outs) (take j cs) = omega (arith, sum_by-cons (λ (c : ChainPlan). c.outs) d (take j cs)) in
    rw number r

-- the cells that are read, from their end
from_end : (ins read : List Cell) (s : ℕ) (r : Option FoundCell) → out_length (ins ++ read) ≡ length read → option_map cell_value r ≡ slice_get (reverse read) s → IsFromEnd (ins ++ read) s r
from_end ins read s None long is =
    let past = no_item (reverse read) s (sym is) in
    omega (arith, past, length-reverse read)
from_end ins read s (Some x) long is =
    let within : s < length (reverse read) = slice_get_within (reverse read) s (cell_value x) (sym is) in
    let turned' : reverse (ins ++ read) ≡ reverse read ++ reverse ins = reverse-append ins read in
    (omega (arith, within, length-reverse read), ap (λ xs. slice_get xs s) turned' ∙ in_front (reverse read) (reverse ins) s within ∙ sym is)

read_long : (lengths scans : List ℕ) (o outs : ℕ) → length (read_cells lengths scans o outs) ≡ sum_by (slice_index lengths) scans + outs
read_long lengths scans o outs =
    length-append (flat_map (flops lengths) scans) (out_cells o outs)
    ∙ ap (λ n. n + length (out_cells o outs)) (flops_all scans)
    ∙ ap (λ n. sum_by (slice_index lengths) scans + n) (length-map (range_with_len o outs) (λ k. Out k) ∙ length-range_with_len o outs)
  where
    flops_all : (scans : List ℕ) → length (flat_map (flops lengths) scans) ≡ sum_by (slice_index lengths) scans
    flops_all [] = refl
    flops_all (c ∷ cs) =
        let here : length (flops lengths c) ≡ slice_index lengths c = length-map (range_with_len 0 (slice_index lengths c)) (λ i. Flop c i) ∙ length-range_with_len 0 (slice_index lengths c) in
        let rest : length (flat_map (flops lengths) cs) ≡ sum_by (slice_index lengths) cs = flops_all cs in
        length-append (flops lengths c) (flat_map (flops lengths) cs) ∙ omega (arith, here, rest, sum_by-cons (slice_index lengths) c cs)

-- past the last chain
pub no_chain : (m : ModuleValue) (scan : Bool) (cs : List ChainPlan) (j s : ℕ) → length cs ≤ j → IsFromEnd (cells_at (chain_cells m scan (map chain_value cs)) j) s None
no_chain m scan cs j s past =
    let long : length (chain_cells m scan (map chain_value cs)) ≡ length cs = length-dealt (scan_lengths m scan) 0 0 (map chain_value cs) ∙ length-map cs chain_value in
    let none : cells_at (chain_cells m scan (map chain_value cs)) j ≡ [] = get_or_past (chain_cells m scan (map chain_value cs)) j [] (omega arith) in
    rw none (omega arith)

-- in a chain
pub in_chain : (m : ModuleValue) (scan : Bool) (cs : List ChainPlan) (j s o : ℕ) (c : ChainPlan) (lengths : List ℕ) (r : Option FoundCell) → j < length cs → get_or cs j c ≡ c → lengths ≡ scan_lengths m scan → o ≡ sum_by (λ (c : ChainPlan). c.outs) (take j cs) →
    option_map cell_value r ≡ slice_get (reverse (read_cells lengths c.scans.items o c.outs)) s → IsFromEnd (cells_at (chain_cells m scan (map chain_value cs)) j) s r
in_chain m scan cs j s o c lengths r within at same first is =
    let there : slice_get cs j ≡ Some c = slice_get-get_or cs j c within ∙ ap Some at in
    let number : 0 + sum_by (λ (c : ChainPlan). c.outs) (take j cs) ≡ o = omega (arith, first) in
    let a : AtChain (scan_lengths m scan) (0 + sum_by (λ (c : ChainPlan). c.outs) (take j cs)) c (cells_at (chain_cells m scan (map chain_value cs)) j) = at_chain (scan_lengths m scan) 0 0 cs j c there in
    let cells' : cells_at (chain_cells m scan (map chain_value cs)) j ≡ a.ins ++ read_cells lengths c.scans.items o c.outs = a.is ∙ ap (λ n. a.ins ++ read_cells (scan_lengths m scan) c.scans.items n c.outs) number ∙ ap (λ ls. a.ins ++ read_cells ls c.scans.items o c.outs) (sym same) in
    let all : length (chain_cells m scan (map chain_value cs)) ≡ length cs = length-dealt (scan_lengths m scan) 0 0 (map chain_value cs) ∙ length-map cs chain_value in
    let counted : out_length (cells_at (chain_cells m scan (map chain_value cs)) j) ≡ outs_and_flops (scan_lengths m scan) c =
    sym (get_or-map out_length (chain_cells m scan (map chain_value cs)) j [] 0 (omega arith)) ∙ ap (λ ns. get_or ns j 0) (out_lengths (scan_lengths m scan) 0 0 cs) ∙ get_or-map (outs_and_flops (scan_lengths m scan)) cs j c 0 within ∙ ap (outs_and_flops (scan_lengths m scan)) at in
    let long : out_length (a.ins ++ read_cells lengths c.scans.items o c.outs) ≡ length (read_cells lengths c.scans.items o c.outs) =
    sym (ap out_length cells') ∙ counted ∙ ap (λ ls. outs_and_flops ls c) (sym same) ∙ turn_sum c.outs (flops_in lengths c) ∙ sym (read_long lengths c.scans.items o c.outs) in
    subst (λ xs. IsFromEnd xs s r) (sym cells') (from_end a.ins (read_cells lengths c.scans.items o c.outs) s r long is)
  where
    turn_sum : (a b : ℕ) → a + b ≡ b + a
    turn_sum a b = omega arith

-- the output cells of a module are few
pub outs_fit : (m : ModuleValue) (scan : Bool) (cs : List ChainPlan) → IsProper m scan (map chain_value cs) → module_size m ≤ 10 ^ 18 → sum_by (λ (c : ChainPlan). c.outs) cs ≤ 10 ^ 18
outs_fit m scan cs proper small =
    let counted : IsCounted m scan cs = proper_is_counted m scan cs proper in
    omega (arith, counted.outs, small)
