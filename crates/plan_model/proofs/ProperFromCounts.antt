-- From counts to permutations: a wrapper whose counts are right is proper.
use Rattle.std.proofs.Common.{◌≡◌, ℕ, zero, suc, ◌+◌, ◌≤◌, ◌<◌, Bool, Some, List, [], ◌∷◌, ◌++◌, length, map, refl, ap, ◌∙◌, sym, subst, arith, eqb, zero-add, append_assoc, inl, inr}
use Rattle.std.specs.Prelude.{slice_get}
use Rattle.std.specs.List.{sum_by, flat_map, range_with_len}
use Rattle.std.specs.List.Sorted.{IsPermutation}
use Rattle.std.proofs.lemmas.List.{map-append, append-nil}
use Rattle.std.proofs.lemmas.List.Concat.{flat_map-append}
use Rattle.std.proofs.lemmas.List.Sums.{sum_by-cons, sum_by-append}
use Rattle.std.proofs.lemmas.Bool.{cases_eq, eqb-true, eq-eqb, ne_eqb}
use Rattle.std.proofs.lemmas.List.Sorted.{IsPermutation-refl, IsPermutation-cons, IsPermutation-trans, IsPermutation-append_comm, IsPermutation-append_left, IsPermutation-append_right}
use Rattle.soc_model.specs.Chips.{ModuleValue}
use Rattle.plan_model.specs.Listing.{times}
use Rattle.plan_model.specs.Cells.{In, Out, ChainValue, in_cells, out_cells, flops, dealt, scan_lengths, IsProper}
use Rattle.plan_model.proofs.Sums.{one_if, item-le-sum_by, some_passes}
use Rattle.plan_model.proofs.Lists.{split_at, in_split}
use Rattle.common_lemmas.proofs.Ranges.{range_split}

-- the terminals that chains take, and the scan chains that they list
abbrev pub all_ins : List ChainValue → ℕ
all_ins cs = sum_by (λ (c : ChainValue). c.ins) cs

abbrev pub all_outs : List ChainValue → ℕ
all_outs cs = sum_by (λ (c : ChainValue). c.outs) cs

abbrev pub all_scans : List ChainValue → List ℕ
all_scans cs = flat_map (λ (c : ChainValue). c.scans) cs

-- the two middle parts change places
mid_swap : {X : Type 0} (x y z w : List X) → IsPermutation ((x ++ y) ++ (z ++ w)) ((x ++ z) ++ (y ++ w))
mid_swap x y z w =
    let left : (x ++ y) ++ (z ++ w) ≡ x ++ ((y ++ z) ++ w) = append_assoc x y (z ++ w) ∙ ap (λ v. x ++ v) (sym (append_assoc y z w)) in
    let right : (x ++ z) ++ (y ++ w) ≡ x ++ ((z ++ y) ++ w) = append_assoc x z (y ++ w) ∙ ap (λ v. x ++ v) (sym (append_assoc z y w)) in
    rw (left, right) (IsPermutation-append_right x ((y ++ z) ++ w) ((z ++ y) ++ w) (IsPermutation-append_left w (y ++ z) (z ++ y) (IsPermutation-append_comm y z)))

six : {X : Type 0} (a a' f f' b b' : List X) → IsPermutation (((a ++ a') ++ (f ++ f')) ++ (b ++ b')) (((a ++ f) ++ b) ++ ((a' ++ f') ++ b'))
six a a' f f' b b' =
    IsPermutation-trans (((a ++ a') ++ (f ++ f')) ++ (b ++ b')) (((a ++ f) ++ (a' ++ f')) ++ (b ++ b')) (((a ++ f) ++ b) ++ ((a' ++ f') ++ b'))
    (IsPermutation-append_left (b ++ b') ((a ++ a') ++ (f ++ f')) ((a ++ f) ++ (a' ++ f')) (mid_swap a a' f f'))
    (mid_swap (a ++ f) (a' ++ f') b b')

same_parts : {X : Type 0} (a a2 f f2 b b2 r : List X) → a ≡ a2 → f ≡ f2 → b ≡ b2 → IsPermutation (a2 ++ f2 ++ b2) r → IsPermutation (a ++ f ++ b) r
same_parts a a2 f f2 b b2 r p q s h = rw (p, q, s) h

-- the cells of all chains are the input cells, the flops of the scan chains and the output cells, in another order
pub dealt_cells : (lengths : List ℕ) (i o : ℕ) (cs : List ChainValue) → IsPermutation (in_cells i (all_ins cs) ++ flat_map (flops lengths) (all_scans cs) ++ out_cells o (all_outs cs)) (flat_map (λ cells. cells) (dealt lengths i o cs))
dealt_cells lengths i o [] = IsPermutation-refl []
dealt_cells lengths i o (c ∷ cs) =
    let ins : in_cells i (all_ins (c ∷ cs)) ≡ in_cells i c.ins ++ in_cells (i + c.ins) (all_ins cs) =
    ap (in_cells i) (sum_by-cons (λ (c : ChainValue). c.ins) c cs) ∙ ap (map (λ k. In k)) (range_split i c.ins (all_ins cs)) ∙ map-append (λ k. In k) (range_with_len i c.ins) (range_with_len (i + c.ins) (all_ins cs)) in
    let outs : out_cells o (all_outs (c ∷ cs)) ≡ out_cells o c.outs ++ out_cells (o + c.outs) (all_outs cs) =
    ap (out_cells o) (sum_by-cons (λ (c : ChainValue). c.outs) c cs) ∙ ap (map (λ k. Out k)) (range_split o c.outs (all_outs cs)) ∙ map-append (λ k. Out k) (range_with_len o c.outs) (range_with_len (o + c.outs) (all_outs cs)) in
    let scans : flat_map (flops lengths) (all_scans (c ∷ cs)) ≡ flat_map (flops lengths) c.scans ++ flat_map (flops lengths) (all_scans cs) = flat_map-append (flops lengths) c.scans (all_scans cs) in
    same_parts (in_cells i (all_ins (c ∷ cs))) (in_cells i c.ins ++ in_cells (i + c.ins) (all_ins cs)) (flat_map (flops lengths) (all_scans (c ∷ cs))) (flat_map (flops lengths) c.scans ++ flat_map (flops lengths) (all_scans cs)) (out_cells o (all_outs (c ∷ cs))) (out_cells o c.outs ++ out_cells (o + c.outs) (all_outs cs))
    (flat_map (λ cells. cells) (dealt lengths i o (c ∷ cs))) ins scans outs
    (IsPermutation-trans _ _ _
    (six (in_cells i c.ins) (in_cells (i + c.ins) (all_ins cs)) (flat_map (flops lengths) c.scans) (flat_map (flops lengths) (all_scans cs)) (out_cells o c.outs) (out_cells (o + c.outs) (all_outs cs)))
    (IsPermutation-append_right (in_cells i c.ins ++ flat_map (flops lengths) c.scans ++ out_cells o c.outs) (in_cells (i + c.ins) (all_ins cs) ++ flat_map (flops lengths) (all_scans cs) ++ out_cells (o + c.outs) (all_outs cs)) (flat_map (λ cells. cells) (dealt lengths (i + c.ins) (o + c.outs) cs)) (dealt_cells lengths (i + c.ins) (o + c.outs) cs)))

-- ---- a permutation of a list, through a map to lists

-- by the first item: it stands somewhere in the other list
pub data Moves {X : Type 0} : List X → List X → Type 0 where
  Nothing : Moves [] []
  Keep : (x : X) {xs ys : List X} → Moves xs ys → Moves (x ∷ xs) (x ∷ ys)
  Exchange : (x y : X) (xs : List X) → Moves (x ∷ y ∷ xs) (y ∷ x ∷ xs)
  Then : {xs ys zs : List X} → Moves xs ys → Moves ys zs → Moves xs zs

moves_refl : {X : Type 0} (xs : List X) → Moves xs xs
moves_refl [] = Nothing
moves_refl (x ∷ xs) = Keep x (moves_refl xs)

flat_map_moves : {X Y : Type 0} (f : X → List Y) {xs ys : List X} → Moves xs ys → IsPermutation (flat_map f xs) (flat_map f ys)
flat_map_moves f Nothing = IsPermutation-refl []
flat_map_moves f (Keep x {xs} {ys} m) = IsPermutation-append_right (f x) (flat_map f xs) (flat_map f ys) (flat_map_moves f m)
flat_map_moves f (Exchange x y xs) = rw (← append_assoc (f x) (f y) (flat_map f xs), ← append_assoc (f y) (f x) (flat_map f xs)) (IsPermutation-append_left (flat_map f xs) (f x ++ f y) (f y ++ f x) (IsPermutation-append_comm (f x) (f y)))
flat_map_moves f (Then {xs} {ys} {zs} m n) = IsPermutation-trans (flat_map f xs) (flat_map f ys) (flat_map f zs) (flat_map_moves f m) (flat_map_moves f n)

-- the first item and the one at a place change places
bring : {X : Type 0} (x : X) (xs : List X) (y : X) (ys : List X) → Moves (xs ++ y ∷ ys) (y ∷ (xs ++ ys))
bring x [] y ys = moves_refl (y ∷ ys)
bring x (z ∷ xs) y ys = Then (Keep z (bring x xs y ys)) (Exchange z y (xs ++ ys))

bring_back : {X : Type 0} (x : X) (xs : List X) (y : X) (ys : List X) → Moves (y ∷ (xs ++ ys)) (xs ++ y ∷ ys)
bring_back x [] y ys = moves_refl (y ∷ ys)
bring_back x (z ∷ xs) y ys = Then (Exchange y z (xs ++ ys)) (Keep z (bring_back x xs y ys))

moves_permute : {X : Type 0} {xs ys : List X} → Moves xs ys → IsPermutation xs ys
moves_permute Nothing = IsPermutation-refl []
moves_permute (Keep x {xs} {ys} m) = IsPermutation-cons x xs ys (moves_permute m)
moves_permute (Exchange x y xs) = IsPermutation-append_left xs (x ∷ y ∷ []) (y ∷ x ∷ []) (IsPermutation-append_comm (x ∷ []) (y ∷ []))
moves_permute (Then {xs} {ys} {zs} m n) = IsPermutation-trans xs ys zs (moves_permute m) (moves_permute n)

-- ---- each number below `n` once, and no other

-- the list has each number below `n` exactly once, and no other
pub record ListsOnce (n : ℕ) (xs : List ℕ) : Type 0 where
  pub once : (c : ℕ) → c < n → times c xs ≡ 1
  pub within : (i x : ℕ) → slice_get xs i ≡ Some x → x < n

count_split : (c : ℕ) (p : List ℕ) (n : ℕ) (q : List ℕ) → times c (p ++ n ∷ q) ≡ one_if (eqb n c) + times c (p ++ q)
count_split c p n q =
    let a : times c (p ++ n ∷ q) ≡ times c p + times c (n ∷ q) = sum_by-append (λ x. one_if (eqb x c)) p (n ∷ q) in
    let b : times c (p ++ q) ≡ times c p + times c q = sum_by-append (λ x. one_if (eqb x c)) p q in
    let d : times c (n ∷ q) ≡ one_if (eqb n c) + times c q = sum_by-cons (λ x. one_if (eqb x c)) n q in
    omega arith

rest_once : (n : ℕ) (p q : List ℕ) → ListsOnce (suc n) (p ++ n ∷ q) → ListsOnce n (p ++ q)
rest_once n p q h = record {
  once = λ c less.
      let other : one_if (eqb n c) ≡ 0 = rw (ne_eqb n c (λ e. omega arith)) refl in
      let all : times c (p ++ n ∷ q) ≡ 1 = h.once c (omega arith) in
      omega (arith, count_split c p n q);
  within = λ i x at.
      let j = in_split p n q i x at in
      let less : x < suc n = h.within j.0 x j.1 in
      let here : one_if (eqb n n) ≡ 1 = rw (eq-eqb n n refl) refl in
      let all : times n (p ++ n ∷ q) ≡ 1 = h.once n (omega arith) in
      let none : times n (p ++ q) ≡ 0 = omega (arith, count_split n p n q) in
      let seen : one_if (eqb x n) ≤ times n (p ++ q) = item-le-sum_by (λ x. one_if (eqb x n)) (p ++ q) i x at in
      elim (cases_eq x n) [
        | inl same ↦ let one : one_if (eqb x n) ≡ 1 = rw (eq-eqb x n same) refl in absurd (omega arith)
        | inr other ↦ omega (arith, other)
      ];
}

-- without the last number the others are left
rest_of : (n : ℕ) (xs p q : List ℕ) → xs ≡ p ++ n ∷ q → ListsOnce (suc n) xs → ListsOnce n (p ++ q)
rest_of n xs p q parts h = rest_once n p q (subst (ListsOnce (suc n)) parts h)

-- the last number is brought between the parts of a list of the others
last_brought : (n : ℕ) (xs p q : List ℕ) → xs ≡ p ++ n ∷ q → Moves (range_with_len 0 n) (p ++ q) → Moves (range_with_len 0 (suc n)) xs
last_brought n xs p q parts moves =
    let e : n + 1 ≡ suc n = omega arith in
    let front : range_with_len 0 n ++ (n ∷ []) ≡ range_with_len 0 (suc n) = ap (λ v. range_with_len 0 n ++ (v ∷ [])) (sym (zero-add n)) ∙ sym (range_split 0 n 1) ∙ ap (range_with_len 0) e in
    let rest : Moves (range_with_len 0 n ++ []) (p ++ q) = subst (λ v. Moves v (p ++ q)) (sym (append-nil (range_with_len 0 n))) moves in
    let whole : Moves (range_with_len 0 n ++ (n ∷ [])) (p ++ n ∷ q) = Then (bring n (range_with_len 0 n) n []) (Then (Keep n rest) (bring_back n p n q)) in
    subst (λ v. Moves v xs) front (subst (λ v. Moves (range_with_len 0 n ++ (n ∷ [])) v) (sym parts) whole)

pub once_moves : (n : ℕ) (xs : List ℕ) → ListsOnce n xs → Moves (range_with_len 0 n) xs
once_moves zero [] h = Nothing
once_moves zero (x ∷ xs) h = let wrong : x < 0 = h.within 0 x refl in absurd (omega arith)
once_moves (suc n) xs h =
    let all : times n xs ≡ 1 = h.once n (omega arith) in
    let r = some_passes (λ x. eqb x n) xs (omega arith) in
    let at : slice_get xs r.0 ≡ Some n = r.2 ∙ ap Some (eqb-true r.1 n r.3) in
    let s = split_at xs r.0 n at in
    last_brought n xs s.0 s.1 s.2 (once_moves n (s.0 ++ s.1) (rest_of n xs s.0 s.1 s.2 h))

-- a wrapper whose counts are right is proper
pub proper_from_counts : (m : ModuleValue) (scan : Bool) (cs : List ChainValue) → all_ins cs ≡ m.inputs + m.bidirs → all_outs cs ≡ m.outputs + m.bidirs → ListsOnce (length (scan_lengths m scan)) (all_scans cs) → IsProper m scan cs
proper_from_counts m scan cs ins outs once = record {
  cells =
      let moves : Moves (range_with_len 0 (length (scan_lengths m scan))) (all_scans cs) = once_moves (length (scan_lengths m scan)) (all_scans cs) once in
      let same : IsPermutation (flat_map (flops (scan_lengths m scan)) (range_with_len 0 (length (scan_lengths m scan)))) (flat_map (flops (scan_lengths m scan)) (all_scans cs)) = flat_map_moves (flops (scan_lengths m scan)) moves in
      IsPermutation-trans _ _ _
      (IsPermutation-append_left (out_cells 0 (m.outputs + m.bidirs)) _ _ (IsPermutation-append_right (in_cells 0 (m.inputs + m.bidirs)) _ _ same))
      (rw (ins, outs) at (dealt_cells (scan_lengths m scan) 0 0 cs));
  scans = moves_permute (once_moves (length (scan_lengths m scan)) (all_scans cs) once);
}
