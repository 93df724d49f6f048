-- Filling chains with input and output cells up to a level.
use Rattle.std.proofs.Common.{◌≡◌, ℕ, zero, suc, ◌+◌, ◌-◌, ◌*◌, ◌/◌, ◌≤◌, ◌<◌, min, max, true, false, Some, List, [], ◌∷◌, ◌++◌, length, map, refl, ap, ◌∙◌, sym, arith, inl, inr}
use Rattle.std.specs.Prelude.{slice_get}
use Rattle.std.specs.List.{sum_by, sum, flat_map}
use Rattle.std.proofs.lemmas.List.Sums.{sum_by-cons}
use Rattle.std.proofs.lemmas.Bool.{cases_lt}
use Rattle.std.proofs.Math.Nat.{mul-le-mul_right, div-lt_iff_lt-mul, max-le}
use Rattle.plan_model.specs.Cells.{ChainValue, is_loaded, is_read, in_length, out_length, in_cells, out_cells, flops, dealt}
use Rattle.plan_model.specs.Plans.{greatest}
use Rattle.plan_model.specs.Bounds.{quotient_up}
use Rattle.plan_model.proofs.LowerTimes.{loaded_counts, read_counts, count_cells, quotient_up-le}
use Rattle.plan_model.proofs.Greatest.{sum_by-le-greatest}
use Rattle.plan_model.proofs.ProperFromCounts.{all_ins, all_outs, all_scans}
use Rattle.wrapper_design.specs.Design.{scan_length, filled}

pub length-filled : (lengths : List ℕ) (a i b o : ℕ) (ss : List (List ℕ)) → length (filled lengths a i b o ss) ≡ length ss
unfolding filled
length-filled lengths a i b o [] = refl
length-filled lengths a i b o (s ∷ ss) = ap suc (length-filled lengths a (i - min (a - scan_length lengths s) i) b (o - min (b - scan_length lengths s) o) ss)

pub scans-filled : (lengths : List ℕ) (a i b o : ℕ) (ss : List (List ℕ)) → all_scans (filled lengths a i b o ss) ≡ flat_map (λ s. s) ss
unfolding filled
scans-filled lengths a i b o [] = refl
scans-filled lengths a i b o (s ∷ ss) = ap (λ v. s ++ v) (scans-filled lengths a (i - min (a - scan_length lengths s) i) b (o - min (b - scan_length lengths s) o) ss)

pub parts-filled : (lengths : List ℕ) (a i b o : ℕ) (ss : List (List ℕ)) → map (λ (c : ChainValue). scan_length lengths c.scans) (filled lengths a i b o ss) ≡ map (scan_length lengths) ss
unfolding filled
parts-filled lengths a i b o [] = refl
parts-filled lengths a i b o (s ∷ ss) = ap (λ v. scan_length lengths s ∷ v) (parts-filled lengths a (i - min (a - scan_length lengths s) i) b (o - min (b - scan_length lengths s) o) ss)

pub get-filled : (lengths : List ℕ) (a i b o : ℕ) (ss : List (List ℕ)) (k : ℕ) (x : ChainValue) → slice_get (filled lengths a i b o ss) k ≡ Some x → slice_get ss k ≡ Some x.scans
unfolding filled
get-filled lengths a i b o [] k x at = absurd cc
get-filled lengths a i b o (s ∷ ss) zero x at = let same : record { ins = min (a - scan_length lengths s) i; scans = s; outs = min (b - scan_length lengths s) o } ≡ x = cc in ap (λ (v : ChainValue). Some v.scans) same
get-filled lengths a i b o (s ∷ ss) (suc k) x at = get-filled lengths a (i - min (a - scan_length lengths s) i) b (o - min (b - scan_length lengths s) o) ss k x at

-- where there is room for all cells, all are dealt out
pub ins-filled : (lengths : List ℕ) (a i b o : ℕ) (ss : List (List ℕ)) → i ≤ sum_by (λ s. a - scan_length lengths s) ss → all_ins (filled lengths a i b o ss) ≡ i
unfolding filled
ins-filled lengths a i b o [] h = omega arith
ins-filled lengths a i b o (s ∷ ss) h =
    let split : sum_by (λ s. a - scan_length lengths s) (s ∷ ss) ≡ (a - scan_length lengths s) + sum_by (λ s. a - scan_length lengths s) ss = sum_by-cons (λ s. a - scan_length lengths s) s ss in
    let x : ℕ = min (a - scan_length lengths s) i in
    let rest : List ChainValue = filled lengths a (i - min (a - scan_length lengths s) i) b (o - min (b - scan_length lengths s) o) ss in
    let ih : all_ins rest ≡ i - min (a - scan_length lengths s) i = ins-filled lengths a (i - min (a - scan_length lengths s) i) b (o - min (b - scan_length lengths s) o) ss (omega arith) in
    sum_by-cons (λ (c : ChainValue). c.ins) (record { ins = min (a - scan_length lengths s) i; scans = s; outs = min (b - scan_length lengths s) o }) rest ∙ omega arith

pub outs-filled : (lengths : List ℕ) (a i b o : ℕ) (ss : List (List ℕ)) → o ≤ sum_by (λ s. b - scan_length lengths s) ss → all_outs (filled lengths a i b o ss) ≡ o
unfolding filled
outs-filled lengths a i b o [] h = omega arith
outs-filled lengths a i b o (s ∷ ss) h =
    let split : sum_by (λ s. b - scan_length lengths s) (s ∷ ss) ≡ (b - scan_length lengths s) + sum_by (λ s. b - scan_length lengths s) ss = sum_by-cons (λ s. b - scan_length lengths s) s ss in
    let rest : List ChainValue = filled lengths a (i - min (a - scan_length lengths s) i) b (o - min (b - scan_length lengths s) o) ss in
    let ih : all_outs rest ≡ o - min (b - scan_length lengths s) o = outs-filled lengths a (i - min (a - scan_length lengths s) i) b (o - min (b - scan_length lengths s) o) ss (omega arith) in
    sum_by-cons (λ (c : ChainValue). c.outs) (record { ins = min (a - scan_length lengths s) i; scans = s; outs = min (b - scan_length lengths s) o }) rest ∙ omega arith

-- ---- the room up to a level that no scan part passes

pub room : (lengths : List ℕ) (a : ℕ) (ss : List (List ℕ)) → greatest (map (scan_length lengths) ss) ≤ a → sum_by (λ s. a - scan_length lengths s) ss + sum_by (scan_length lengths) ss ≡ a * length ss
room lengths a [] h = omega arith
room lengths a (s ∷ ss) h =
    let ih : sum_by (λ s. a - scan_length lengths s) ss + sum_by (scan_length lengths) ss ≡ a * length ss = room lengths a ss (omega arith) in
    let product : a * suc (length ss) ≡ a * length ss + a = omega arith in
    let one : sum_by (λ s. a - scan_length lengths s) (s ∷ ss) ≡ (a - scan_length lengths s) + sum_by (λ s. a - scan_length lengths s) ss = sum_by-cons (λ s. a - scan_length lengths s) s ss in
    let two : sum_by (scan_length lengths) (s ∷ ss) ≡ scan_length lengths s + sum_by (scan_length lengths) ss = sum_by-cons (scan_length lengths) s ss in
    omega arith

pub quotient_up-enough : (n w : ℕ) → 1 ≤ w → n ≤ quotient_up n w * w
quotient_up-enough n w h = elim (cases_lt (quotient_up n w * w) n) [
  | inl less ↦
      let product : (quotient_up n w + 1) * w ≡ quotient_up n w * w + w = omega arith in
      elim (cases_lt ((n + (w - 1)) / w) (quotient_up n w + 1)) [
        | inl below ↦ let wrong : n + (w - 1) < (quotient_up n w + 1) * w = (div-lt_iff_lt-mul h).0 below in absurd (omega arith)
        | inr not_below ↦ absurd (omega arith)
      ]
  | inr enough ↦ omega arith
]

-- ---- in-lengths and out-lengths

abbrev pub ins_and_scans : List ℕ → ChainValue → ℕ
ins_and_scans lengths c = c.ins + scan_length lengths c.scans

abbrev pub outs_and_scans : List ℕ → ChainValue → ℕ
outs_and_scans lengths c = c.outs + scan_length lengths c.scans

pub in_lengths-dealt : (lengths : List ℕ) (i o : ℕ) (cs : List ChainValue) → map in_length (dealt lengths i o cs) ≡ map (ins_and_scans lengths) cs
in_lengths-dealt lengths i o [] = refl
in_lengths-dealt lengths i o (c ∷ cs) =
    let ih : map in_length (dealt lengths (i + c.ins) (o + c.outs) cs) ≡ map (ins_and_scans lengths) cs = in_lengths-dealt lengths (i + c.ins) (o + c.outs) cs in
    let here : in_length (in_cells i c.ins ++ flat_map (flops lengths) c.scans ++ out_cells o c.outs) ≡ ins_and_scans lengths c = count_cells is_loaded true false loaded_counts lengths c.scans i c.ins o c.outs ∙ omega arith in
    cc

pub out_lengths-dealt : (lengths : List ℕ) (i o : ℕ) (cs : List ChainValue) → map out_length (dealt lengths i o cs) ≡ map (outs_and_scans lengths) cs
out_lengths-dealt lengths i o [] = refl
out_lengths-dealt lengths i o (c ∷ cs) =
    let ih : map out_length (dealt lengths (i + c.ins) (o + c.outs) cs) ≡ map (outs_and_scans lengths) cs = out_lengths-dealt lengths (i + c.ins) (o + c.outs) cs in
    let here : out_length (in_cells i c.ins ++ flat_map (flops lengths) c.scans ++ out_cells o c.outs) ≡ outs_and_scans lengths c = count_cells is_read false true read_counts lengths c.scans i c.ins o c.outs ∙ omega arith in
    cc

-- no chain passes the level
ins_at_most : (lengths : List ℕ) (a i b o : ℕ) (ss : List (List ℕ)) → greatest (map (scan_length lengths) ss) ≤ a → greatest (map (ins_and_scans lengths) (filled lengths a i b o ss)) ≤ a
unfolding filled
ins_at_most lengths a i b o [] h = omega arith
ins_at_most lengths a i b o (s ∷ ss) h =
    let ih : greatest (map (ins_and_scans lengths) (filled lengths a (i - min (a - scan_length lengths s) i) b (o - min (b - scan_length lengths s) o) ss)) ≤ a = ins_at_most lengths a (i - min (a - scan_length lengths s) i) b (o - min (b - scan_length lengths s) o) ss (omega arith) in
    max-le (omega arith) ih

outs_at_most : (lengths : List ℕ) (a i b o : ℕ) (ss : List (List ℕ)) → greatest (map (scan_length lengths) ss) ≤ b → greatest (map (outs_and_scans lengths) (filled lengths a i b o ss)) ≤ b
unfolding filled
outs_at_most lengths a i b o [] h = omega arith
outs_at_most lengths a i b o (s ∷ ss) h =
    let ih : greatest (map (outs_and_scans lengths) (filled lengths a (i - min (a - scan_length lengths s) i) b (o - min (b - scan_length lengths s) o) ss)) ≤ b = outs_at_most lengths a (i - min (a - scan_length lengths s) i) b (o - min (b - scan_length lengths s) o) ss (omega arith) in
    max-le (omega arith) ih

-- the greatest of more is at least as great
greatest-mono : (f g : ChainValue → ℕ) (cs : List ChainValue) → ((c : ChainValue) → f c ≤ g c) → greatest (map f cs) ≤ greatest (map g cs)
greatest-mono f g [] h = omega arith
greatest-mono f g (c ∷ cs) h = let ih : greatest (map f cs) ≤ greatest (map g cs) = greatest-mono f g cs h in let here : f c ≤ g c = h c in omega arith

sum-split : (f g h : ChainValue → ℕ) (cs : List ChainValue) → ((c : ChainValue) → h c ≡ f c + g c) → sum_by h cs ≡ sum_by f cs + sum_by g cs
sum-split f g h [] e = refl
sum-split f g h (c ∷ cs) e =
    let ih : sum_by h cs ≡ sum_by f cs + sum_by g cs = sum-split f g h cs e in
    let here : h c ≡ f c + g c = e c in
    omega (arith, sum_by-cons f c cs, sum_by-cons g c cs, sum_by-cons h c cs)

sum-map : {X : Type 0} (f : X → ℕ) (cs : List X) → sum_by f cs ≡ sum (map f cs)
sum-map f [] = refl
sum-map f (c ∷ cs) = let ih : sum_by f cs ≡ sum (map f cs) = sum-map f cs in omega (arith, sum_by-cons f c cs, sum_by-cons (λ x. x) (f c) (map f cs))

-- the longest chain is as long as the level, which is the least that serves
pub ins_level : (lengths : List ℕ) (w a i b o : ℕ) (ss : List (List ℕ)) → 1 ≤ w → length ss ≡ w → a ≡ max (greatest (map (scan_length lengths) ss)) (quotient_up (i + sum_by (scan_length lengths) ss) w) →
    greatest (map (ins_and_scans lengths) (filled lengths a i b o ss)) ≡ a
ins_level lengths w a i b o ss some wide is =
    let cs : List ChainValue = filled lengths a i b o ss in
    let g : ℕ = greatest (map (ins_and_scans lengths) (filled lengths a i b o ss)) in
    let most : greatest (map (ins_and_scans lengths) (filled lengths a i b o ss)) ≤ a = ins_at_most lengths a i b o ss (omega arith) in
    let parts : greatest (map (λ (c : ChainValue). scan_length lengths c.scans) (filled lengths a i b o ss)) ≤ greatest (map (ins_and_scans lengths) (filled lengths a i b o ss)) = greatest-mono (λ (c : ChainValue). scan_length lengths c.scans) (ins_and_scans lengths) (filled lengths a i b o ss) (λ c. omega arith) in
    let parts' : greatest (map (scan_length lengths) ss) ≤ greatest (map (ins_and_scans lengths) (filled lengths a i b o ss)) = rw (parts-filled lengths a i b o ss) at parts in
    let room' : sum_by (λ s. a - scan_length lengths s) ss + sum_by (scan_length lengths) ss ≡ a * length ss = room lengths a ss (omega arith) in
    let enough : i + sum_by (scan_length lengths) ss ≤ quotient_up (i + sum_by (scan_length lengths) ss) w * w = quotient_up-enough (i + sum_by (scan_length lengths) ss) w some in
    let wider : quotient_up (i + sum_by (scan_length lengths) ss) w * w ≤ a * w = mul-le-mul_right w (omega arith) in
    let same : a * length ss ≡ a * w = ap (λ v. a * v) wide in
    let dealt_all : all_ins (filled lengths a i b o ss) ≡ i = ins-filled lengths a i b o ss (omega arith) in
    let total : sum_by (ins_and_scans lengths) (filled lengths a i b o ss) ≡ all_ins (filled lengths a i b o ss) + sum_by (λ (c : ChainValue). scan_length lengths c.scans) (filled lengths a i b o ss) = sum-split (λ (c : ChainValue). c.ins) (λ (c : ChainValue). scan_length lengths c.scans) (ins_and_scans lengths) (filled lengths a i b o ss) (λ c. refl) in
    let flops' : sum_by (λ (c : ChainValue). scan_length lengths c.scans) (filled lengths a i b o ss) ≡ sum_by (scan_length lengths) ss = sum-map (λ (c : ChainValue). scan_length lengths c.scans) (filled lengths a i b o ss) ∙ ap sum (parts-filled lengths a i b o ss) ∙ sym (sum-map (scan_length lengths) ss) in
    let share : sum_by (ins_and_scans lengths) (filled lengths a i b o ss) ≤ greatest (map (ins_and_scans lengths) (filled lengths a i b o ss)) * length (filled lengths a i b o ss) = sum_by-le-greatest (ins_and_scans lengths) (filled lengths a i b o ss) in
    let long : greatest (map (ins_and_scans lengths) (filled lengths a i b o ss)) * length (filled lengths a i b o ss) ≡ greatest (map (ins_and_scans lengths) (filled lengths a i b o ss)) * w = ap (λ v. greatest (map (ins_and_scans lengths) (filled lengths a i b o ss)) * v) (length-filled lengths a i b o ss ∙ wide) in
    let up : quotient_up (i + sum_by (scan_length lengths) ss) w ≤ greatest (map (ins_and_scans lengths) (filled lengths a i b o ss)) = quotient_up-le (i + sum_by (scan_length lengths) ss) (greatest (map (ins_and_scans lengths) (filled lengths a i b o ss))) w some (omega arith) in
    omega arith

pub outs_level : (lengths : List ℕ) (w a i b o : ℕ) (ss : List (List ℕ)) → 1 ≤ w → length ss ≡ w → b ≡ max (greatest (map (scan_length lengths) ss)) (quotient_up (o + sum_by (scan_length lengths) ss) w) →
    greatest (map (outs_and_scans lengths) (filled lengths a i b o ss)) ≡ b
outs_level lengths w a i b o ss some wide is =
    let most : greatest (map (outs_and_scans lengths) (filled lengths a i b o ss)) ≤ b = outs_at_most lengths a i b o ss (omega arith) in
    let parts : greatest (map (λ (c : ChainValue). scan_length lengths c.scans) (filled lengths a i b o ss)) ≤ greatest (map (outs_and_scans lengths) (filled lengths a i b o ss)) = greatest-mono (λ (c : ChainValue). scan_length lengths c.scans) (outs_and_scans lengths) (filled lengths a i b o ss) (λ c. omega arith) in
    let parts' : greatest (map (scan_length lengths) ss) ≤ greatest (map (outs_and_scans lengths) (filled lengths a i b o ss)) = rw (parts-filled lengths a i b o ss) at parts in
    let room' : sum_by (λ s. b - scan_length lengths s) ss + sum_by (scan_length lengths) ss ≡ b * length ss = room lengths b ss (omega arith) in
    let enough : o + sum_by (scan_length lengths) ss ≤ quotient_up (o + sum_by (scan_length lengths) ss) w * w = quotient_up-enough (o + sum_by (scan_length lengths) ss) w some in
    let wider : quotient_up (o + sum_by (scan_length lengths) ss) w * w ≤ b * w = mul-le-mul_right w (omega arith) in
    let same : b * length ss ≡ b * w = ap (λ v. b * v) wide in
    let dealt_all : all_outs (filled lengths a i b o ss) ≡ o = outs-filled lengths a i b o ss (omega arith) in
    let total : sum_by (outs_and_scans lengths) (filled lengths a i b o ss) ≡ all_outs (filled lengths a i b o ss) + sum_by (λ (c : ChainValue). scan_length lengths c.scans) (filled lengths a i b o ss) = sum-split (λ (c : ChainValue). c.outs) (λ (c : ChainValue). scan_length lengths c.scans) (outs_and_scans lengths) (filled lengths a i b o ss) (λ c. refl) in
    let flops' : sum_by (λ (c : ChainValue). scan_length lengths c.scans) (filled lengths a i b o ss) ≡ sum_by (scan_length lengths) ss = sum-map (λ (c : ChainValue). scan_length lengths c.scans) (filled lengths a i b o ss) ∙ ap sum (parts-filled lengths a i b o ss) ∙ sym (sum-map (scan_length lengths) ss) in
    let share : sum_by (outs_and_scans lengths) (filled lengths a i b o ss) ≤ greatest (map (outs_and_scans lengths) (filled lengths a i b o ss)) * length (filled lengths a i b o ss) = sum_by-le-greatest (outs_and_scans lengths) (filled lengths a i b o ss) in
    let long : greatest (map (outs_and_scans lengths) (filled lengths a i b o ss)) * length (filled lengths a i b o ss) ≡ greatest (map (outs_and_scans lengths) (filled lengths a i b o ss)) * w = ap (λ v. greatest (map (outs_and_scans lengths) (filled lengths a i b o ss)) * v) (length-filled lengths a i b o ss ∙ wide) in
    let up : quotient_up (o + sum_by (scan_length lengths) ss) w ≤ greatest (map (outs_and_scans lengths) (filled lengths a i b o ss)) = quotient_up-le (o + sum_by (scan_length lengths) ss) (greatest (map (outs_and_scans lengths) (filled lengths a i b o ss))) w some (omega arith) in
    omega arith
