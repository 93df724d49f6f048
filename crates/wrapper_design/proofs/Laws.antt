-- The design is proper and balanced, and has one chain a wire.
use Rattle.std.proofs.Common.{◌≡◌, ℕ, zero, suc, ◌+◌, ◌-◌, ◌*◌, ◌≤◌, Bool, Some, List, [], ◌∷◌, ◌++◌, length, map, replicate, refl, ap, ◌∙◌, sym, arith, inl, inr, ◌⊎◌, eqb, leb}
use Rattle.std.specs.Prelude.{slice_get, slice_index}
use Rattle.std.specs.List.{sum_by, sum, range_with_len}
use Rattle.std.proofs.lemmas.List.Sums.{sum_by-cons, sum_by-append}
use Rattle.std.proofs.Math.Nat.{mul-le-mul_right, mul-le-mul_left, max-le}
use Rattle.std.proofs.lemmas.Bool.{lt-leb, cases_lt, le-leb}
use Rattle.soc_model.specs.Chips.{ModuleValue}
use Rattle.plan_model.specs.Cells.{IsProper}
use Rattle.plan_model.specs.Plans.{greatest}
use Rattle.plan_model.specs.Bounds.{quotient_up}
use Rattle.plan_model.proofs.Sums.{one_if}
use Rattle.plan_model.proofs.Lists.{from_append}
use Rattle.plan_model.proofs.LowerTimes.{quotient_up-le, sum_places}
use Rattle.plan_model.proofs.Sums.{item-le-sum_by}
use Rattle.plan_model.proofs.ProperByCounts.{times_range}
use Rattle.plan_model.proofs.ProperFromCounts.{ListsOnce, proper_from_counts}
use Rattle.wrapper_design.specs.Design.{Mode, mode_of, scan_length, longest_first, put_on_least, put_all_on_least, scan_parts, longest_part, level, filled, design}
use Rattle.wrapper_design.specs.Balance.{IsBalanced, in_length_of, out_length_of, scan_lengths_of}
use Rattle.wrapper_design.proofs.Parts.{PutAt, put_at, get_set, push_length, length-put, length-scan_parts, all_of, sum_put_all, sum_sort, Falls, falls_sort}
use Rattle.wrapper_design.proofs.Filled.{length-filled, scans-filled, parts-filled, get-filled, ins-filled, outs-filled, room, quotient_up-enough, in_lengths-dealt, out_lengths-dealt, ins_level, outs_level}
use Rattle.common_lemmas.proofs.Lists.{contains_at}

-- ---- each scan chain once

none_past : (n i m : ℕ) → i + m ≤ n → sum_by (λ x. one_if (leb n x)) (range_with_len i m) ≡ 0
none_past n i zero h = refl
none_past n i (suc m) h =
    let ih : sum_by (λ x. one_if (leb n x)) (range_with_len (i + 1) m) ≡ 0 = none_past n (i + 1) m (omega arith) in
    let no' : one_if (leb n i) ≡ 0 = rw (lt-leb n i (omega arith)) refl in
    sum_by-cons (λ x. one_if (leb n x)) i (range_with_len (i + 1) m) ∙ omega arith

empty_parts : (f : ℕ → ℕ) (w : ℕ) → sum_by f (all_of (replicate w [])) ≡ 0
empty_parts f zero = refl
empty_parts f (suc w) = empty_parts f w

-- what is summed over all scan chains does not depend on where they go
pub sum_parts : (f : ℕ → ℕ) (lengths : List ℕ) (w : ℕ) → 1 ≤ w → sum_by f (all_of (scan_parts lengths w)) ≡ sum_by f (range_with_len 0 (length lengths))
sum_parts f lengths zero h = absurd (omega arith)
sum_parts f lengths (suc w) h =
    let all : sum_by f (all_of (scan_parts lengths (suc w))) ≡ sum_by f (longest_first lengths) + sum_by f (all_of (replicate (suc w) [])) = sum_put_all f lengths (longest_first lengths) [] (replicate w []) in
    let none : sum_by f (all_of (replicate (suc w) [])) ≡ 0 = empty_parts f (suc w) in
    omega (arith, sum_sort f lengths (range_with_len 0 (length lengths)))

parts_once : (lengths : List ℕ) (w : ℕ) → 1 ≤ w → ListsOnce (length lengths) (all_of (scan_parts lengths w))
parts_once lengths w some = record {
  once = λ c less. sum_parts (λ x. one_if (eqb x c)) lengths w some ∙ times_range 0 (length lengths) c (omega arith) (omega arith);
  within = λ i x at.
      let none : sum_by (λ x. one_if (leb (length lengths) x)) (all_of (scan_parts lengths w)) ≡ 0 = sum_parts (λ x. one_if (leb (length lengths) x)) lengths w some ∙ none_past (length lengths) 0 (length lengths) (omega arith) in
      let here : one_if (leb (length lengths) x) ≤ sum_by (λ x. one_if (leb (length lengths) x)) (all_of (scan_parts lengths w)) = item-le-sum_by (λ x. one_if (leb (length lengths) x)) (all_of (scan_parts lengths w)) i x at in
      elim (cases_lt x (length lengths)) [
        | inl less ↦ less
        | inr past ↦ let yes' : one_if (leb (length lengths) x) ≡ 1 = rw (le-leb (length lengths) x past) refl in absurd (omega arith)
      ];
}

-- ---- the flops

sum_by_parts : (f : ℕ → ℕ) (ss : List (List ℕ)) → sum_by (sum_by f) ss ≡ sum_by f (all_of ss)
sum_by_parts f [] = refl
sum_by_parts f (s ∷ ss) =
    let ih : sum_by (sum_by f) ss ≡ sum_by f (all_of ss) = sum_by_parts f ss in
    sum_by-cons (sum_by f) s ss ∙ omega (arith, sum_by-append f s (all_of ss))

pub flops_of_parts : (lengths : List ℕ) (w : ℕ) → 1 ≤ w → sum_by (scan_length lengths) (scan_parts lengths w) ≡ sum lengths
flops_of_parts lengths w some = sum_by_parts (slice_index lengths) (scan_parts lengths w) ∙ sum_parts (slice_index lengths) lengths w some ∙ sum_places [] lengths

-- ---- one chain a wire

pub design_width : (m : Mode) (w : ℕ) → length (design m w) ≡ w
unfolding design
design_width m w = length-filled m.lengths (level m.lengths m.ins w) m.ins (level m.lengths m.outs w) m.outs (scan_parts m.lengths w) ∙ length-scan_parts m.lengths w

-- ---- the level has room for all cells

level_room : (lengths : List ℕ) (ends w : ℕ) → 1 ≤ w → ends ≤ sum_by (λ s. level lengths ends w - scan_length lengths s) (scan_parts lengths w)
level_room lengths ends w some =
    let a : ℕ = level lengths ends w in
    let room' : sum_by (λ s. level lengths ends w - scan_length lengths s) (scan_parts lengths w) + sum_by (scan_length lengths) (scan_parts lengths w) ≡ level lengths ends w * length (scan_parts lengths w) = room lengths (level lengths ends w) (scan_parts lengths w) (omega arith) in
    let enough : ends + sum lengths ≤ quotient_up (ends + sum lengths) w * w = quotient_up-enough (ends + sum lengths) w some in
    let wider : quotient_up (ends + sum lengths) w * w ≤ level lengths ends w * w = mul-le-mul_right w (omega arith) in
    let same : level lengths ends w * length (scan_parts lengths w) ≡ level lengths ends w * w = ap (λ v. level lengths ends w * v) (length-scan_parts lengths w) in
    omega (arith, flops_of_parts lengths w some)

-- ---- proper

pub design_proper : (m : ModuleValue) (scan : Bool) (w : ℕ) → 1 ≤ w → IsProper m scan (design (mode_of m scan) w)
unfolding design
design_proper m scan w some =
    let d : Mode = mode_of m scan in
    let a : ℕ = level d.lengths d.ins w in
    let b : ℕ = level d.lengths d.outs w in
    let parts : List (List ℕ) = scan_parts d.lengths w in
    proper_from_counts m scan (design (mode_of m scan) w)
    (ins-filled d.lengths a d.ins b d.outs parts (level_room d.lengths d.ins w some))
    (outs-filled d.lengths a d.ins b d.outs parts (level_room d.lengths d.outs w some))
    (rw (scans-filled d.lengths a d.ins b d.outs parts) (parts_once d.lengths w some))

-- ---- balanced

-- no chain is longer than another with one more of its own scan chains
pub record IsEven (lengths : List ℕ) (ss : List (List ℕ)) : Type 0 where
  pub pairs : (i j n c : ℕ) (x y : List ℕ) → slice_get ss i ≡ Some x → slice_get ss j ≡ Some y → slice_get x n ≡ Some c → scan_length lengths x ≤ scan_length lengths y + slice_index lengths c

-- the scan chain is no longer than any that is there
pub record IsShortest (lengths : List ℕ) (c : ℕ) (ss : List (List ℕ)) : Type 0 where
  pub below : (i n d : ℕ) (x : List ℕ) → slice_get ss i ≡ Some x → slice_get x n ≡ Some d → slice_index lengths c ≤ slice_index lengths d

in_single : (c n d : ℕ) → slice_get (c ∷ []) n ≡ Some d → c ≡ d
in_single c zero d at = cc
in_single c (suc n) d at = absurd cc

even_set : (lengths : List ℕ) (c : ℕ) (ss : List (List ℕ)) (r : PutAt lengths c ss) → IsEven lengths ss → IsShortest lengths c ss → (i j n d : ℕ) (x y : List ℕ) →
    ((i ≡ r.place) × (x ≡ r.part ++ c ∷ [])) ⊎ (slice_get ss i ≡ Some x) → ((j ≡ r.place) × (y ≡ r.part ++ c ∷ [])) ⊎ (slice_get ss j ≡ Some y) →
    slice_get x n ≡ Some d → scan_length lengths x ≤ scan_length lengths y + slice_index lengths d
even_set lengths c ss r even short i j n d x y (inl new) (inl new') in' =
    let e : scan_length lengths x ≡ scan_length lengths y = ap (scan_length lengths) (new.1 ∙ sym new'.1) in omega arith
even_set lengths c ss r even short i j n d x y (inl new) (inr old) in' =
    let e : scan_length lengths x ≡ scan_length lengths r.part + slice_index lengths c = ap (scan_length lengths) new.1 ∙ push_length lengths r.part c in
    let least : scan_length lengths r.part ≤ scan_length lengths y = r.least j y old in
    let at : slice_get (r.part ++ c ∷ []) n ≡ Some d = ap (λ v. slice_get v n) (sym new.1) ∙ in' in
    elim (from_append r.part (c ∷ []) n d at) [
      | inl there ↦ let s : slice_index lengths c ≤ slice_index lengths d = short.below r.place n d r.part r.at there in omega arith
      | inr last ↦ let s : slice_index lengths c ≡ slice_index lengths d = ap (slice_index lengths) (in_single c last.0 d last.2) in omega arith
    ]
even_set lengths c ss r even short i j n d x y (inr old) (inl new) in' =
    let e : scan_length lengths y ≡ scan_length lengths r.part + slice_index lengths c = ap (scan_length lengths) new.1 ∙ push_length lengths r.part c in
    let before : scan_length lengths x ≤ scan_length lengths r.part + slice_index lengths d = even.pairs i r.place n d x r.part old r.at in' in
    omega arith
even_set lengths c ss r even short i j n d x y (inr old) (inr old') in' = even.pairs i j n d x y old old' in'

even_put : (lengths : List ℕ) (c : ℕ) (s : List ℕ) (ss : List (List ℕ)) → IsEven lengths (s ∷ ss) → IsShortest lengths c (s ∷ ss) → IsEven lengths (put_on_least lengths c (s ∷ ss))
even_put lengths c s ss even short =
    let r = put_at lengths c s ss in
    rw r.is (record {
      pairs = λ i j n d x y at at' in'.
          even_set lengths c (s ∷ ss) r even short i j n d x y (get_set (s ∷ ss) r.place (r.part ++ c ∷ []) i x at) (get_set (s ∷ ss) r.place (r.part ++ c ∷ []) j y at') in';
    })

shortest_put : (lengths : List ℕ) (c e : ℕ) (s : List ℕ) (ss : List (List ℕ)) → slice_index lengths e ≤ slice_index lengths c → IsShortest lengths c (s ∷ ss) → IsShortest lengths e (put_on_least lengths c (s ∷ ss))
shortest_put lengths c e s ss le short =
    let r = put_at lengths c s ss in
    rw r.is (record {
      below = λ i n d x at in'. elim (get_set (s ∷ ss) r.place (r.part ++ c ∷ []) i x at) [
        | inl new ↦ elim (from_append r.part (c ∷ []) n d (ap (λ v. slice_get v n) (sym new.1) ∙ in')) [
          | inl there ↦ let b : slice_index lengths c ≤ slice_index lengths d = short.below r.place n d r.part r.at there in omega arith
          | inr last ↦ let b : slice_index lengths c ≡ slice_index lengths d = ap (slice_index lengths) (in_single c last.0 d last.2) in omega arith
        ]
        | inr old ↦ let b : slice_index lengths c ≤ slice_index lengths d = short.below i n d x old in' in omega arith
      ];
    })

even_put_all : (lengths cs : List ℕ) (s : List ℕ) (ss : List (List ℕ)) → IsEven lengths (s ∷ ss) → Falls lengths cs → ((n d : ℕ) → slice_get cs n ≡ Some d → IsShortest lengths d (s ∷ ss)) → IsEven lengths (put_all_on_least lengths cs (s ∷ ss))
unfolding put_all_on_least
even_put_all lengths [] s ss even falls short = even
even_put_all lengths (c ∷ cs) s ss even falls short =
    again (put_on_least lengths c (s ∷ ss)) (length-put lengths c (s ∷ ss)) (even_put lengths c s ss even (short 0 c refl))
    (λ n d at. shortest_put lengths c d s ss (falls.0 n d at) (short 0 c refl)) (even_put_all lengths cs)
  where
    again : (ts : List (List ℕ)) → length ts ≡ suc (length ss) → IsEven lengths ts → ((n d : ℕ) → slice_get cs n ≡ Some d → IsShortest lengths d ts) →
        ((s : List ℕ) (ss : List (List ℕ)) → IsEven lengths (s ∷ ss) → Falls lengths cs → ((n d : ℕ) → slice_get cs n ≡ Some d → IsShortest lengths d (s ∷ ss)) → IsEven lengths (put_all_on_least lengths cs (s ∷ ss))) → IsEven lengths (put_all_on_least lengths cs ts)
    again [] long e sh ih = absurd (omega arith)
    again (t ∷ ts) long e sh ih = ih t ts e falls.1 sh

in_empty : (w i : ℕ) (x : List ℕ) (n d : ℕ) → slice_get (replicate w []) i ≡ Some x → slice_get x n ≡ Some d → ⊥
in_empty zero i x n d at in' = cc
in_empty (suc w) zero x n d at in' = let same : [] ≡ x = cc in let wrong : slice_get {X = ℕ} [] n ≡ Some d = ap (λ v. slice_get v n) same ∙ in' in cc
in_empty (suc w) (suc i) x n d at in' = in_empty w i x n d at in'

parts_even : (lengths : List ℕ) (w : ℕ) → 1 ≤ w → IsEven lengths (scan_parts lengths w)
parts_even lengths zero some = absurd (omega arith)
parts_even lengths (suc w) some =
    even_put_all lengths (longest_first lengths) [] (replicate w [])
    (record { pairs = λ i j n c x y at at' in'. absurd (in_empty (suc w) i x n c at in') })
    (falls_sort lengths (range_with_len 0 (length lengths)))
    (λ n d at. record { below = λ i n d x at in'. absurd (in_empty (suc w) i x n d at in') })

-- ---- the in-length and the out-length

pub design_in_length : (m : Mode) (w : ℕ) → 1 ≤ w → in_length_of m (design m w) ≡ level m.lengths m.ins w
unfolding design
design_in_length m w some =
    let a : ℕ = level m.lengths m.ins w in
    let b : ℕ = level m.lengths m.outs w in
    let parts : List (List ℕ) = scan_parts m.lengths w in
    ap greatest (in_lengths-dealt m.lengths 0 0 (filled m.lengths a m.ins b m.outs parts))
    ∙ ins_level m.lengths w a m.ins b m.outs parts some (length-scan_parts m.lengths w) (rw (flops_of_parts m.lengths w some) refl)

pub design_out_length : (m : Mode) (w : ℕ) → 1 ≤ w → out_length_of m (design m w) ≡ level m.lengths m.outs w
unfolding design
design_out_length m w some =
    let a : ℕ = level m.lengths m.ins w in
    let b : ℕ = level m.lengths m.outs w in
    let parts : List (List ℕ) = scan_parts m.lengths w in
    ap greatest (out_lengths-dealt m.lengths 0 0 (filled m.lengths a m.ins b m.outs parts))
    ∙ outs_level m.lengths w a m.ins b m.outs parts some (length-scan_parts m.lengths w) (rw (flops_of_parts m.lengths w some) refl)

pub design_balanced : (m : Mode) (w : ℕ) → 1 ≤ w → IsBalanced m (design m w)
unfolding design
design_balanced m w some =
    let a : ℕ = level m.lengths m.ins w in
    let b : ℕ = level m.lengths m.outs w in
    let parts : List (List ℕ) = scan_parts m.lengths w in
    let same : scan_lengths_of m (design m w) ≡ map (scan_length m.lengths) (scan_parts m.lengths w) = parts-filled m.lengths a m.ins b m.outs parts in
    let even = parts_even m.lengths w some in
    record {
      parts = λ x y c longest shortest within.
          let at = contains_at (design m w) x longest.there in
          let at' = contains_at (design m w) y shortest.there in
          let in' = contains_at x.scans c within in
          even.pairs at.0 at'.0 in'.0 c x.scans y.scans (get-filled m.lengths a m.ins b m.outs parts at.0 x at.1) (get-filled m.lengths a m.ins b m.outs parts at'.0 y at'.1) in'.1;
      ins = rw (same, design_width m w) (design_in_length m w some);
      outs = rw (same, design_width m w) (design_out_length m w some);
    }

-- ---- no wrapper of the design is longer than one chain of everything

greatest-le-sum : {X : Type 0} (f : X → ℕ) (xs : List X) → greatest (map f xs) ≤ sum_by f xs
greatest-le-sum f [] = omega arith
greatest-le-sum f (x ∷ xs) = let ih : greatest (map f xs) ≤ sum_by f xs = greatest-le-sum f xs in omega (arith, sum_by-cons f x xs)

pub level_bounded : (lengths : List ℕ) (ends w : ℕ) → 1 ≤ w → level lengths ends w ≤ ends + sum lengths
level_bounded lengths ends w some =
    let part : longest_part lengths w ≤ sum_by (scan_length lengths) (scan_parts lengths w) = greatest-le-sum (scan_length lengths) (scan_parts lengths w) in
    let wide : (ends + sum lengths) * 1 ≤ (ends + sum lengths) * w = mul-le-mul_left (ends + sum lengths) some in
    let share : quotient_up (ends + sum lengths) w ≤ ends + sum lengths = quotient_up-le (ends + sum lengths) (ends + sum lengths) w some (omega arith) in
    max-le (omega (arith, flops_of_parts lengths w some)) share

pub design_bounded : (m : Mode) (w : ℕ) → 1 ≤ w → (in_length_of m (design m w) ≤ m.ins + sum m.lengths) × (out_length_of m (design m w) ≤ m.outs + sum m.lengths)
design_bounded m w some = (
  omega (arith, design_in_length m w some, level_bounded m.lengths m.ins w some),
  omega (arith, design_out_length m w some, level_bounded m.lengths m.outs w some),
)
