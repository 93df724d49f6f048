-- No cell stands at two places of the chains of a proper wrapper, so each response bit is read once.
use Rattle.std.proofs.Common.{◌≡◌, ℕ, ◌+◌, ◌≤◌, ◌<◌, Bool, true, false, eqb, cond, Some, List, [], ◌∷◌, ◌++◌, length, map, refl, ◌∙◌, arith, eq-eqb, inl, inr}
use Rattle.std.specs.Prelude.{slice_get, slice_index, nat_eq, ◌&&◌}
use Rattle.std.specs.List.{sum_by, count_by, flat_map, range_with_len}
use Rattle.std.specs.List.Sorted.{IsPermutation}
use Rattle.std.proofs.lemmas.Bool.{cases_Bool, cases_lt, cases_order}
use Rattle.std.proofs.lemmas.List.Sums.{sum_by-cons, sum_by-append}
use Rattle.std.proofs.lemmas.List.Sorted.{sum_by-IsPermutation}
use Rattle.soc_model.specs.Chips.{ModuleValue}
use Rattle.plan_model.specs.Cells.{Cell, In, Flop, Out, in_cells, out_cells, flops, scan_lengths, cells_of}
use Rattle.plan_model.specs.Listing.{times}
use Rattle.plan_model.proofs.Sums.{item-le-sum_by, two-le-sum_by}
use Rattle.plan_model.proofs.LowerTimes.{count_map, count_all_chains}
use Rattle.plan_model.proofs.ProperByCounts.{times_later, times_range, times_past}
use Rattle.common_lemmas.proofs.Lists.{sum_map}

-- two cells are one
abbrev pub same_cell : Cell → Cell → Bool
same_cell (In k) (In n) = nat_eq n k
same_cell (In k) (Flop d j) = false
same_cell (In k) (Out n) = false
same_cell (Flop c i) (In n) = false
same_cell (Flop c i) (Flop d j) = nat_eq d c && nat_eq j i
same_cell (Flop c i) (Out n) = false
same_cell (Out k) (In n) = false
same_cell (Out k) (Flop d j) = false
same_cell (Out k) (Out n) = nat_eq n k

same_itself : (x : Cell) → same_cell x x ≡ true
same_itself (In k) = eq-eqb k k refl
same_itself (Flop c i) = rw (eq-eqb c c refl, eq-eqb i i refl) refl
same_itself (Out k) = eq-eqb k k refl

-- ---- a cell stands once among all cells of a mode

times_range-le : (i n c : ℕ) → times c (range_with_len i n) ≤ 1
times_range-le i n c = elim (cases_lt c i) [
  | inl before ↦ let none : times c (range_with_len i n) ≡ 0 = times_later i n c before in omega arith
  | inr from ↦ elim (cases_lt c (i + n)) [
    | inl within ↦ let one : times c (range_with_len i n) ≡ 1 = times_range i n c from within in omega arith
    | inr past ↦ let none : times c (range_with_len i n) ≡ 0 = times_past i n c past in omega arith
  ]
]

-- as often as a number in a range
numbered : (p : Cell → Bool) (f : ℕ → Cell) (k : ℕ) → ((n : ℕ) → p (f n) ≡ nat_eq n k) → (i n : ℕ) → count_by p (map f (range_with_len i n)) ≤ 1
numbered p f k same i n =
    let a : count_by p (map f (range_with_len i n)) ≡ sum_by (λ x. cond (p (f x)) 1 0) (range_with_len i n) = sum_map (λ y. cond (p y) 1 0) f (range_with_len i n) in
    let b : sum_by (λ x. cond (p (f x)) 1 0) (range_with_len i n) ≡ times k (range_with_len i n) = simp same in
    omega (arith, times_range-le i n k)

no_flops : (p : Cell → Bool) → ((c i : ℕ) → p (Flop c i) ≡ false) → (lengths scans : List ℕ) → count_by p (flat_map (flops lengths) scans) ≡ 0
no_flops p none lengths [] = refl
no_flops p none lengths (c ∷ cs) =
    let here : count_by p (flops lengths c) ≡ 0 = count_map p (λ i. Flop c i) false (none c) 0 (slice_index lengths c) in
    let ih : count_by p (flat_map (flops lengths) cs) ≡ 0 = no_flops p none lengths cs in
    sum_by-append (λ x. cond (p x) 1 0) (flops lengths c) (flat_map (flops lengths) cs) ∙ omega arith

-- a flop stands at most as often as its scan chain is listed
flops_listed : (c i : ℕ) (lengths scans : List ℕ) → count_by (same_cell (Flop c i)) (flat_map (flops lengths) scans) ≤ times c scans
flops_listed c i lengths [] = omega arith
flops_listed c i lengths (d ∷ ds) =
    let ih : count_by (same_cell (Flop c i)) (flat_map (flops lengths) ds) ≤ times c ds = flops_listed c i lengths ds in
    let here : count_by (same_cell (Flop c i)) (flops lengths d) ≤ cond (eqb d c) 1 0 = elim (cases_Bool (eqb d c)) [
      | inl yes' ↦ rw yes' (numbered (same_cell (Flop c i)) (λ j. Flop d j) i (λ j. rw yes' refl) 0 (slice_index lengths d))
      | inr no' ↦
          let none : count_by (same_cell (Flop c i)) (flops lengths d) ≡ 0 = count_map (same_cell (Flop c i)) (λ j. Flop d j) false (λ j. rw no' refl) 0 (slice_index lengths d) in
          omega arith
    ] in
    omega (arith, sum_by-append (λ x. cond (same_cell (Flop c i) x) 1 0) (flops lengths d) (flat_map (flops lengths) ds), sum_by-cons (λ x. cond (eqb x c) 1 0) d ds)

parts : (p : Cell → Bool) (xs ys zs : List Cell) → count_by p xs + count_by p ys + count_by p zs ≤ 1 → count_by p (xs ++ ys ++ zs) ≤ 1
parts p xs ys zs h = omega (arith, sum_by-append (λ x. cond (p x) 1 0) (xs ++ ys) zs, sum_by-append (λ x. cond (p x) 1 0) xs ys)

pub cells_once : (m : ModuleValue) (scan : Bool) (x : Cell) → count_by (same_cell x) (cells_of m scan) ≤ 1
cells_once m scan x =
    parts (same_cell x) (in_cells 0 (m.inputs + m.bidirs)) (flat_map (flops (scan_lengths m scan)) (range_with_len 0 (length (scan_lengths m scan)))) (out_cells 0 (m.outputs + m.bidirs))
    (each x (m.inputs + m.bidirs) (m.outputs + m.bidirs) (scan_lengths m scan) (length (scan_lengths m scan)))
  where
    each : (x : Cell) (a b : ℕ) (lengths : List ℕ) (n : ℕ) → count_by (same_cell x) (in_cells 0 a) + count_by (same_cell x) (flat_map (flops lengths) (range_with_len 0 n)) + count_by (same_cell x) (out_cells 0 b) ≤ 1
    each (In k) a b lengths n =
        let flop : count_by (same_cell (In k)) (flat_map (flops lengths) (range_with_len 0 n)) ≡ 0 = no_flops (same_cell (In k)) (λ c i. refl) lengths (range_with_len 0 n) in
        let outs : count_by (same_cell (In k)) (out_cells 0 b) ≡ 0 = count_map (same_cell (In k)) (λ n. Out n) false (λ n. refl) 0 b in
        omega (arith, numbered (same_cell (In k)) (λ n. In n) k (λ n. refl) 0 a)
    each (Flop c i) a b lengths n =
        let ins : count_by (same_cell (Flop c i)) (in_cells 0 a) ≡ 0 = count_map (same_cell (Flop c i)) (λ n. In n) false (λ n. refl) 0 a in
        let outs : count_by (same_cell (Flop c i)) (out_cells 0 b) ≡ 0 = count_map (same_cell (Flop c i)) (λ n. Out n) false (λ n. refl) 0 b in
        omega (arith, flops_listed c i lengths (range_with_len 0 n), times_range-le 0 n c)
    each (Out k) a b lengths n =
        let ins : count_by (same_cell (Out k)) (in_cells 0 a) ≡ 0 = count_map (same_cell (Out k)) (λ n. In n) false (λ n. refl) 0 a in
        let flop : count_by (same_cell (Out k)) (flat_map (flops lengths) (range_with_len 0 n)) ≡ 0 = no_flops (same_cell (Out k)) (λ c i. refl) lengths (range_with_len 0 n) in
        omega (arith, numbered (same_cell (Out k)) (λ n. Out n) k (λ n. refl) 0 b)

-- ---- and so in the chains that these cells stand in

-- an item that passes counts
passes_counts : (p : Cell → Bool) (cells : List Cell) (a : ℕ) (x : Cell) → slice_get cells a ≡ Some x → p x ≡ true → 1 ≤ count_by p cells
passes_counts p cells a x at yes' =
    let here = rw yes' at (item-le-sum_by (λ y. cond (p y) 1 0) cells a x at) in
    here

-- two places count twice
twice_in : (p : Cell → Bool) (cells : List Cell) (a b : ℕ) (x : Cell) → a < b → slice_get cells a ≡ Some x → slice_get cells b ≡ Some x → p x ≡ true → 2 ≤ count_by p cells
twice_in p cells a b x less at at' yes' =
    let here = rw yes' at (two-le-sum_by (λ y. cond (p y) 1 0) cells a b x x less at at') in
    omega (arith, here)

twice_among : (p : Cell → Bool) (chains : List (List Cell)) (j j' a b : ℕ) (cells cells' : List Cell) (x : Cell) → j < j' → slice_get chains j ≡ Some cells → slice_get chains j' ≡ Some cells' → slice_get cells a ≡ Some x → slice_get cells' b ≡ Some x → p x ≡ true → 2 ≤ sum_by (count_by p) chains
twice_among p chains j j' a b cells cells' x less there there' at at' yes' =
    omega (arith, two-le-sum_by (count_by p) chains j j' cells cells' less there there', passes_counts p cells a x at yes', passes_counts p cells' b x at' yes')

pub one_place : (p : Cell → Bool) (chains : List (List Cell)) (j j' a b : ℕ) (cells cells' : List Cell) (x : Cell) → sum_by (count_by p) chains ≤ 1 →
    slice_get chains j ≡ Some cells → slice_get chains j' ≡ Some cells' → slice_get cells a ≡ Some x → slice_get cells' b ≡ Some x → p x ≡ true → (j ≡ j') × (a ≡ b)
one_place p chains j j' a b cells cells' x few there there' at at' yes' = elim (cases_order j j') [
  | inl same ↦ (same, in_one (rw same at there))
  | inr other ↦ elim other [
    | inl less ↦ absurd (omega (arith, twice_among p chains j j' a b cells cells' x less there there' at at' yes'))
    | inr more ↦ absurd (omega (arith, twice_among p chains j' j b a cells' cells x more there' there at' at yes'))
  ]
]
  where
    in_one : slice_get chains j' ≡ Some cells → a ≡ b
    in_one here =
        let same : cells ≡ cells' = cc in
        let at2 : slice_get cells b ≡ Some x = rw same at' in
        let all : count_by p cells ≤ sum_by (count_by p) chains = item-le-sum_by (count_by p) chains j cells there in
        elim (cases_order a b) [
          | inl one ↦ one
          | inr other ↦ elim other [
            | inl less ↦ absurd (omega (arith, twice_in p cells a b x less at at2 yes'))
            | inr more ↦ absurd (omega (arith, twice_in p cells b a x more at2 at yes'))
          ]
        ]

-- a cell of a mode stands at one place of the chains
pub place_once : (m : ModuleValue) (scan : Bool) (chains : List (List Cell)) → IsPermutation (cells_of m scan) (flat_map (λ cells. cells) chains) →
    (j j' a b : ℕ) (cells cells' : List Cell) (x : Cell) → slice_get chains j ≡ Some cells → slice_get chains j' ≡ Some cells' → slice_get cells a ≡ Some x → slice_get cells' b ≡ Some x → (j ≡ j') × (a ≡ b)
place_once m scan chains stand j j' a b cells cells' x there there' at at' =
    let once : count_by (same_cell x) (cells_of m scan) ≤ 1 = cells_once m scan x in
    let moved : count_by (same_cell x) (flat_map (λ cells. cells) chains) ≡ count_by (same_cell x) (cells_of m scan) = sum_by-IsPermutation (λ y. cond (same_cell x y) 1 0) (cells_of m scan) (flat_map (λ cells. cells) chains) stand in
    let split : count_by (same_cell x) (flat_map (λ cells. cells) chains) ≡ sum_by (count_by (same_cell x)) chains = count_all_chains (same_cell x) chains in
    one_place (same_cell x) chains j j' a b cells cells' x (omega arith) there there' at at' (same_itself x)
