-- The lengths of a wrapper's chains, as the code adds them up.
use Rattle.std.proofs.Common.{◌≡◌, ℕ, zero, suc, ◌+◌, ◌*◌, ◌≤◌, ◌<◌, max, min, Bool, true, false, Some, List, [], ◌∷◌, length, get_or, map, refl, ap, ◌∙◌, sym, arith, inl, inr}
use Rattle.std.specs.Prelude.{slice_get, slice_index}
use Rattle.std.specs.List.{sum, sum_by, range_with_len, All}
use Rattle.std.proofs.lemmas.Bool.{cases_lt}
use Rattle.std.proofs.lemmas.List.Sums.{sum_by-cons, sum_by-append}
use Rattle.std.proofs.lemmas.List.Sorted.{sum_by-IsPermutation}
use Rattle.std.proofs.lemmas.Option.{slice_get-get_or}
use Rattle.std.proofs.Math.Nat.{mul-le-mul_right}
use Rattle.plan_model.specs.declared.ChainPlan.{ChainPlan}
use Rattle.soc_model.specs.Chips.{ModuleValue}
use Rattle.plan_model.specs.Views.{chain_value}
use Rattle.plan_model.specs.Cells.{is_loaded, is_read, in_length, out_length, dealt, scan_lengths, chain_cells, IsProper}
use Rattle.plan_model.specs.Plans.{greatest}
use Rattle.plan_model.proofs.Greatest.{greatest-least}
use Rattle.plan_model.proofs.LowerTimes.{count_cells, loaded_counts, read_counts, sum_places}
use Rattle.plan_model.proofs.Sums.{item-le-sum_by}
use Rattle.plan_model.proofs.ProperFromCounts.{all_scans}
use Rattle.plan_model.proofs.Lists.{in_append_right}
use Rattle.plan_model.proofs.ProperByCounts.{IsCounted, proper_is_counted, all_within, below_value}
use Rattle.common_lemmas.proofs.Lists.{at_left}

-- the lengths of the scan chains that a chain lists, together
abbrev pub flops_in : List ℕ → ChainPlan → ℕ
flops_in lengths c = sum_by (slice_index lengths) c.scans.items

-- the in-length and the out-length of a chain
abbrev pub ins_and_flops : List ℕ → ChainPlan → ℕ
ins_and_flops lengths c = c.ins + flops_in lengths c

abbrev pub outs_and_flops : List ℕ → ChainPlan → ℕ
outs_and_flops lengths c = c.outs + flops_in lengths c

-- ---- one chain after another

pub in_lengths : (lengths : List ℕ) (i o : ℕ) (chains : List ChainPlan) → map in_length (dealt lengths i o (map chain_value chains)) ≡ map (ins_and_flops lengths) chains
in_lengths lengths i o [] = refl
in_lengths lengths i o (c ∷ cs) =
    let here : in_length (get_or (dealt lengths i o (map chain_value (c ∷ cs))) 0 []) ≡ ins_and_flops lengths c = count_cells is_loaded true false loaded_counts lengths c.scans.items i c.ins o c.outs ∙ omega arith in
    rw here (ap (λ v. ins_and_flops lengths c ∷ v) (in_lengths lengths (i + c.ins) (o + c.outs) cs))

pub out_lengths : (lengths : List ℕ) (i o : ℕ) (chains : List ChainPlan) → map out_length (dealt lengths i o (map chain_value chains)) ≡ map (outs_and_flops lengths) chains
out_lengths lengths i o [] = refl
out_lengths lengths i o (c ∷ cs) =
    let here : out_length (get_or (dealt lengths i o (map chain_value (c ∷ cs))) 0 []) ≡ outs_and_flops lengths c = count_cells is_read false true read_counts lengths c.scans.items i c.ins o c.outs ∙ omega arith in
    rw here (ap (λ v. outs_and_flops lengths c ∷ v) (out_lengths lengths (i + c.ins) (o + c.outs) cs))

-- ---- no chain is longer than all cells together

flops_value : (lengths : List ℕ) (chains : List ChainPlan) → sum_by (slice_index lengths) (all_scans (map chain_value chains)) ≡ sum_by (flops_in lengths) chains
flops_value lengths [] = refl
flops_value lengths (c ∷ cs) = sum_by-append (slice_index lengths) c.scans.items (all_scans (map chain_value cs)) ∙ ap (λ v. flops_in lengths c + v) (flops_value lengths cs) ∙ sym (sum_by-cons (flops_in lengths) c cs)

pub mode_flops : (m : ModuleValue) (scan : Bool) → sum (scan_lengths m scan) ≤ sum m.chains
mode_flops m true = omega arith
mode_flops m false = omega arith

pub record FitsModule (m : ModuleValue) (scan : Bool) (c : ChainPlan) : Type 0 where
  pub ins : c.ins ≤ m.inputs + m.bidirs
  pub outs : c.outs ≤ m.outputs + m.bidirs
  pub flops : flops_in (scan_lengths m scan) c ≤ sum m.chains
  pub listed : All (λ x. x < length (scan_lengths m scan)) c.scans.items

scans_within : (n : ℕ) (chains : List ChainPlan) (i : ℕ) (c : ChainPlan) → ((k x : ℕ) → slice_get (all_scans (map chain_value chains)) k ≡ Some x → x < n) → slice_get chains i ≡ Some c → (k x : ℕ) → slice_get c.scans.items k ≡ Some x → x < n
scans_within n [] i c h at k x e = absurd cc
scans_within n (d ∷ ds) zero c h at k x e = let same : d ≡ c = cc in h k x (at_left d.scans.items (all_scans (map chain_value ds)) k x (rw same e))
scans_within n (d ∷ ds) (suc i) c h at k x e = scans_within n ds i c (λ k x e. let r = in_append_right d.scans.items (all_scans (map chain_value ds)) k x e in h r.0 x r.1) at k x e

pub chain_fits : (m : ModuleValue) (scan : Bool) (chains : List ChainPlan) → IsProper m scan (map chain_value chains) → (i : ℕ) (c : ChainPlan) → slice_get chains i ≡ Some c → FitsModule m scan c
chain_fits m scan chains proper i c at =
    let is : IsCounted m scan chains = proper_is_counted m scan chains proper in
    let places : sum_by (slice_index (scan_lengths m scan)) (range_with_len 0 (length (scan_lengths m scan))) ≡ sum (scan_lengths m scan) = sum_places [] (scan_lengths m scan) in
    let all : sum_by (slice_index (scan_lengths m scan)) (all_scans (map chain_value chains)) ≡ sum_by (slice_index (scan_lengths m scan)) (range_with_len 0 (length (scan_lengths m scan))) = sum_by-IsPermutation (slice_index (scan_lengths m scan)) (range_with_len 0 (length (scan_lengths m scan))) (all_scans (map chain_value chains)) proper.scans in
    let within = all_within (length (scan_lengths m scan)) (all_scans (map chain_value chains)) (below_value (length (scan_lengths m scan)) chains ∙ is.below) in
    record {
      ins = omega (arith, is.ins, item-le-sum_by (λ (c : ChainPlan). c.ins) chains i c at);
      outs = omega (arith, is.outs, item-le-sum_by (λ (c : ChainPlan). c.outs) chains i c at);
      flops = omega (arith, places, all, flops_value (scan_lengths m scan) chains, mode_flops m scan, item-le-sum_by (flops_in (scan_lengths m scan)) chains i c at);
      listed = λ k d h. scans_within (length (scan_lengths m scan)) chains i c within at k (get_or c.scans.items k d) (slice_get-get_or c.scans.items k d h);
    }

pub chain_fits_at : (m : ModuleValue) (scan : Bool) (chains : List ChainPlan) → IsProper m scan (map chain_value chains) → (i : ℕ) (c : ChainPlan) → i < length chains → get_or chains i c ≡ c → FitsModule m scan c
chain_fits_at m scan chains proper i c h e = chain_fits m scan chains proper i c (slice_get-get_or chains i c h ∙ ap Some e)

pub lengths_within : (m : ModuleValue) (scan : Bool) (chains : List ChainPlan) → IsProper m scan (map chain_value chains) →
    (greatest (map in_length (chain_cells m scan (map chain_value chains))) ≤ m.inputs + m.bidirs + sum m.chains) × (greatest (map out_length (chain_cells m scan (map chain_value chains))) ≤ m.outputs + m.bidirs + sum m.chains)
lengths_within m scan chains proper = (
  rw (in_lengths (scan_lengths m scan) 0 0 chains) (greatest-least (ins_and_flops (scan_lengths m scan)) (m.inputs + m.bidirs + sum m.chains) chains (λ i c at. let f : FitsModule m scan c = chain_fits m scan chains proper i c at in omega arith)),
  rw (out_lengths (scan_lengths m scan) 0 0 chains) (greatest-least (outs_and_flops (scan_lengths m scan)) (m.outputs + m.bidirs + sum m.chains) chains (λ i c at. let f : FitsModule m scan c = chain_fits m scan chains proper i c at in omega arith)),
)

-- a test's time is within its part of the work
pub time_within : (setup si so p size work : ℕ) → 1 ≤ p → 1 + si + so ≤ size → setup + p * size ≤ work → setup + (1 + max si so) * p + min si so ≤ work
time_within setup si so (suc q) size work live fits h =
    let product : (1 + si + so) * suc q ≤ size * suc q = mul-le-mul_right (suc q) fits in
    let turned : suc q * size ≡ size * suc q = omega arith in
    elim (cases_lt si so) [
      | inl less ↦ let e : max si so ≡ so = omega arith in let f : min si so ≡ si = omega arith in rw (e, f) (omega arith)
      | inr more ↦ let e : max si so ≡ si = omega arith in let f : min si so ≡ so = omega arith in rw (e, f) (omega arith)
    ]
time_within setup si so zero size work live fits h = absurd (omega arith)

-- an item that was read of a borrowed list, in the list itself
pub item_at : {X : Type 0} (xs ys : List X) (i : ℕ) (x : X) → ys ≡ xs → x ≡ get_or ys i x → get_or xs i x ≡ x
item_at xs ys i x same is = rw same at (sym is)
