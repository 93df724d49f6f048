-- A wrapper is proper exactly where its counts are right.
use Rattle.std.proofs.Common.{◌≡◌, ℕ, zero, suc, ◌+◌, ◌≤◌, ◌<◌, Bool, true, false, Some, List, [], ◌∷◌, ◌++◌, cond, eqb, ltb, length, map, refl, ap, ◌∙◌, sym, arith, inl, inr, ◌⊎◌, eq-eqb}
use Rattle.std.specs.Prelude.{slice_get, slice_index, ◌&&◌}
use Rattle.std.specs.List.{sum_by, flat_map, range_with_len, list_all}
use Rattle.std.proofs.lemmas.Bool.{cases_eq, cases_lt, ne_eqb, ltb-true, lt-ltb, and_parts}
use Rattle.std.proofs.lemmas.List.Folds.{list_all-append}
use Rattle.std.proofs.lemmas.List.Sums.{sum_by-cons, sum_by-append}
use Rattle.std.proofs.lemmas.List.Sorted.{sum_by-IsPermutation}
use Rattle.plan_model.specs.declared.ChainPlan.{ChainPlan}
use Rattle.soc_model.specs.Chips.{ModuleValue}
use Rattle.plan_model.specs.Views.{chain_value}
use Rattle.plan_model.specs.Cells.{Cell, is_loaded, is_read, ChainValue, in_cells, out_cells, flops, scan_lengths, cells_of, chain_cells, IsProper}
use Rattle.plan_model.specs.Listing.{times, listed_times}
use Rattle.plan_model.proofs.LowerTimes.{Counts, count_cells, if_so, loaded_counts, read_counts}
use Rattle.plan_model.proofs.Sums.{item-le-sum_by}
use Rattle.plan_model.proofs.ProperFromCounts.{all_ins, all_outs, all_scans, ListsOnce, proper_from_counts, dealt_cells}

-- ---- from the code's lists to the values

pub ins_value : (chains : List ChainPlan) → all_ins (map chain_value chains) ≡ sum_by (λ (c : ChainPlan). c.ins) chains
ins_value [] = refl
ins_value (c ∷ cs) = omega (arith, sum_by-cons (λ (c : ChainPlan). c.ins) c cs, sum_by-cons (λ (c : ChainValue). c.ins) (chain_value c) (map chain_value cs), ins_value cs)

pub outs_value : (chains : List ChainPlan) → all_outs (map chain_value chains) ≡ sum_by (λ (c : ChainPlan). c.outs) chains
outs_value [] = refl
outs_value (c ∷ cs) = omega (arith, sum_by-cons (λ (c : ChainPlan). c.outs) c cs, sum_by-cons (λ (c : ChainValue). c.outs) (chain_value c) (map chain_value cs), outs_value cs)

pub times_value : (n : ℕ) (chains : List ChainPlan) → times n (all_scans (map chain_value chains)) ≡ listed_times n chains
times_value n [] = refl
times_value n (c ∷ cs) = sum_by-append (λ x. cond (eqb x n) 1 0) c.scans.items (all_scans (map chain_value cs)) ∙ ap (λ v. times n c.scans.items + v) (times_value n cs) ∙ sym (sum_by-cons (λ (chain : ChainPlan). times n chain.scans.items) c cs)

pub below_value : (n : ℕ) (chains : List ChainPlan) → list_all (λ x. ltb x n) (all_scans (map chain_value chains)) ≡ list_all (λ (c : ChainPlan). list_all (λ x. ltb x n) c.scans.items) chains
below_value n [] = refl
below_value n (c ∷ cs) = list_all-append (λ x. ltb x n) c.scans.items (all_scans (map chain_value cs)) ∙ ap (λ v. list_all (λ x. ltb x n) c.scans.items && v) (below_value n cs)

pub all_within : (n : ℕ) (xs : List ℕ) → list_all (λ x. ltb x n) xs ≡ true → (i x : ℕ) → slice_get xs i ≡ Some x → x < n
all_within n [] h i x e = absurd cc
all_within n (y ∷ ys) h zero x e = let same : y ≡ x = cc in rw (← same) (ltb-true y n ((and_parts (ltb y n) (list_all (λ x. ltb x n) ys) h).0))
all_within n (y ∷ ys) h (suc i) x e = all_within n ys ((and_parts (ltb y n) (list_all (λ x. ltb x n) ys) h).1) i x e

within_all : (n : ℕ) (xs : List ℕ) → ((i x : ℕ) → slice_get xs i ≡ Some x → x < n) → list_all (λ x. ltb x n) xs ≡ true
within_all n [] h = refl
within_all n (y ∷ ys) h = rw (lt-ltb y n (h 0 y refl)) (within_all n ys (λ i x e. h (suc i) x e))

-- ---- the numbers from 0 on, each once

pub times_later : (i n c : ℕ) → c < i → times c (range_with_len i n) ≡ 0
times_later i zero c h = refl
times_later i (suc n) c h =
    let other : eqb i c ≡ false = ne_eqb i c (λ e. omega arith) in
    let ih : times c (range_with_len (i + 1) n) ≡ 0 = times_later (i + 1) n c (omega arith) in
    sum_by-cons (λ x. cond (eqb x c) 1 0) i (range_with_len (i + 1) n) ∙ rw other (omega arith)

pub times_range : (i n c : ℕ) → i ≤ c → c < i + n → times c (range_with_len i n) ≡ 1
times_range i zero c a b = absurd (omega arith)
times_range i (suc n) c a b = sum_by-cons (λ x. cond (eqb x c) 1 0) i (range_with_len (i + 1) n) ∙ go (cases_eq i c) (λ a b. times_range (i + 1) n c a b) where
  go : (i ≡ c) ⊎ (i ≡ c → ⊥) → (i + 1 ≤ c → c < i + 1 + n → times c (range_with_len (i + 1) n) ≡ 1) → cond (eqb i c) 1 0 + times c (range_with_len (i + 1) n) ≡ 1
  go (inl same) _ = let none : times c (range_with_len (i + 1) n) ≡ 0 = times_later (i + 1) n c (omega arith) in rw (eq-eqb i c same) (omega arith)
  go (inr other) ih = let one : times c (range_with_len (i + 1) n) ≡ 1 = ih (omega (arith, other)) (omega arith) in rw (ne_eqb i c other) (omega arith)

pub times_past : (i n c : ℕ) → i + n ≤ c → times c (range_with_len i n) ≡ 0
times_past i zero c h = refl
times_past i (suc n) c h =
    let other : eqb i c ≡ false = ne_eqb i c (λ e. omega arith) in
    let ih : times c (range_with_len (i + 1) n) ≡ 0 = times_past (i + 1) n c (omega arith) in
    sum_by-cons (λ x. cond (eqb x c) 1 0) i (range_with_len (i + 1) n) ∙ rw other (omega arith)

-- ---- both ways

-- the counts of a proper wrapper
pub record IsCounted (m : ModuleValue) (scan : Bool) (chains : List ChainPlan) : Type 0 where
  pub ins : sum_by (λ (c : ChainPlan). c.ins) chains ≡ m.inputs + m.bidirs
  pub outs : sum_by (λ (c : ChainPlan). c.outs) chains ≡ m.outputs + m.bidirs
  pub below : list_all (λ (c : ChainPlan). list_all (λ x. ltb x (length (scan_lengths m scan))) c.scans.items) chains ≡ true
  pub once : (c : ℕ) → c < length (scan_lengths m scan) → listed_times c chains ≡ 1

pub counted_is_proper : (m : ModuleValue) (scan : Bool) (chains : List ChainPlan) → IsCounted m scan chains → IsProper m scan (map chain_value chains)
counted_is_proper m scan chains h = proper_from_counts m scan (map chain_value chains) (ins_value chains ∙ h.ins) (outs_value chains ∙ h.outs) (record {
  once = λ c less. times_value c chains ∙ h.once c less;
  within = all_within (length (scan_lengths m scan)) (all_scans (map chain_value chains)) (below_value (length (scan_lengths m scan)) chains ∙ h.below);
})

ends_are : (p : Cell → Bool) (a b : Bool) → Counts p a b → (m : ModuleValue) (scan : Bool) (cs : List ChainValue) → IsProper m scan cs → if_so a (all_ins cs) + if_so b (all_outs cs) ≡ if_so a (m.inputs + m.bidirs) + if_so b (m.outputs + m.bidirs)
ends_are p a b k m scan cs proper =
    let lengths : List ℕ = scan_lengths m scan in
    let one = count_cells p a b k (scan_lengths m scan) (all_scans cs) 0 (all_ins cs) 0 (all_outs cs) in
    let two = count_cells p a b k (scan_lengths m scan) (range_with_len 0 (length (scan_lengths m scan))) 0 (m.inputs + m.bidirs) 0 (m.outputs + m.bidirs) in
    let same = sum_by-IsPermutation (λ x. cond (p x) 1 0) (cells_of m scan) (flat_map (λ cells. cells) (chain_cells m scan cs)) proper.cells in
    let dealt = sum_by-IsPermutation (λ x. cond (p x) 1 0) (in_cells 0 (all_ins cs) ++ flat_map (flops (scan_lengths m scan)) (all_scans cs) ++ out_cells 0 (all_outs cs)) (flat_map (λ cells. cells) (chain_cells m scan cs)) (dealt_cells (scan_lengths m scan) 0 0 cs) in
    let flop = sum_by-IsPermutation (slice_index (scan_lengths m scan)) (range_with_len 0 (length (scan_lengths m scan))) (all_scans cs) proper.scans in
    omega (arith, one, two, same, dealt, flop)

-- the counts of the chains of a proper wrapper
pub proper_ins : (m : ModuleValue) (scan : Bool) (cs : List ChainValue) → IsProper m scan cs → all_ins cs ≡ m.inputs + m.bidirs
proper_ins m scan cs proper = omega (arith, ends_are is_loaded true false loaded_counts m scan cs proper)

pub proper_outs : (m : ModuleValue) (scan : Bool) (cs : List ChainValue) → IsProper m scan cs → all_outs cs ≡ m.outputs + m.bidirs
proper_outs m scan cs proper = omega (arith, ends_are is_read false true read_counts m scan cs proper)

pub proper_lists : (m : ModuleValue) (scan : Bool) (cs : List ChainValue) → IsProper m scan cs → ListsOnce (length (scan_lengths m scan)) (all_scans cs)
proper_lists m scan cs proper = record {
  once = λ c less. same c ∙ times_range 0 (length (scan_lengths m scan)) c (omega arith) (omega arith);
  within = λ i x at. elim (cases_lt x (length (scan_lengths m scan))) [
    | inl less ↦ less
    | inr past ↦
        let here : cond {A = ℕ} (eqb x x) 1 0 ≡ 1 = rw (eq-eqb x x refl) refl in
        let seen : cond {A = ℕ} (eqb x x) 1 0 ≤ times x (all_scans cs) = item-le-sum_by (λ y. cond (eqb y x) 1 0) (all_scans cs) i x at in
        let none : times x (range_with_len 0 (length (scan_lengths m scan))) ≡ 0 = times_past 0 (length (scan_lengths m scan)) x (omega arith) in
        absurd (omega (arith, here, seen, none, same x))
  ];
}
  where
    same : (c : ℕ) → times c (all_scans cs) ≡ times c (range_with_len 0 (length (scan_lengths m scan)))
    same c = sum_by-IsPermutation (λ y. cond (eqb y c) 1 0) (range_with_len 0 (length (scan_lengths m scan))) (all_scans cs) proper.scans

pub proper_is_counted : (m : ModuleValue) (scan : Bool) (chains : List ChainPlan) → IsProper m scan (map chain_value chains) → IsCounted m scan chains
proper_is_counted m scan chains proper =
    let lists : ListsOnce (length (scan_lengths m scan)) (all_scans (map chain_value chains)) = proper_lists m scan (map chain_value chains) proper in
    record {
      ins = sym (ins_value chains) ∙ proper_ins m scan (map chain_value chains) proper;
      outs = sym (outs_value chains) ∙ proper_outs m scan (map chain_value chains) proper;
      below = sym (below_value (length (scan_lengths m scan)) chains) ∙ within_all (length (scan_lengths m scan)) (all_scans (map chain_value chains)) lists.within;
      once = λ c less. sym (times_value c chains) ∙ lists.once c less;
    }
