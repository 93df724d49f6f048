-- Sums of times over the tests of a mode, and the wrappers that are designed.
use Rattle.std.proofs.Common.{◌≡◌, ℕ, zero, suc, ◌+◌, ◌-◌, ◌≤◌, ◌<◌, Bool, true, false, Some, List, ◌∷◌, length, drop, get_or, refl, sym, ap, subst, ◌∙◌, arith, inl, inr, ◌&&◌, slice_get, IfSome, sum_by, filter}
use Rattle.std.proofs.lemmas.List.{drop_more}
use Rattle.std.proofs.lemmas.List.Sums.{sum_by-cons}
use Rattle.std.proofs.lemmas.Bool.{cases_lt, and_parts}
use Rattle.soc_model.specs.declared.Test.{Test}
use Rattle.soc_model.specs.Chips.{ModuleValue, is_live, SocValue}
use Rattle.soc_model.specs.Modes.{is_of_mode, same_mode}
use Rattle.soc_model.specs.SoundChips.{IsSoundChip}
use Rattle.plan_model.specs.Cells.{IsProper, chain_cells}
use Rattle.plan_model.specs.Plans.{WrapperValue, operations_of}
use Rattle.wrapper_design.specs.Design.{mode_of, design}
use Rattle.plan_model.proofs.SoundChips.{tam_work-le}
use Rattle.width_table.specs.Times.{IsChosen, mode_time, time_in, least_time}
use Rattle.packed_wrappers.specs.Times.{HasShortTests, IsProperWrapper, IsShortWrapper, time_within}
use Rattle.width_table.proofs.LeastWidths.{chosen_first, chosen_new, chosen_old}

-- the times of some tests in a wrapper, of those of its mode, together
abbrev pub time_of : ModuleValue → WrapperValue → Test → ℕ
time_of m w t = length (operations_of m t (chain_cells m w.scan w.chains))

abbrev pub times_in : ModuleValue → WrapperValue → List Test → ℕ
times_in m w ts = sum_by (time_of m w) (filter (is_of_mode w.scan) ts)

-- ---- one test more

pub left_yes : (p : Test → Bool) (f : Test → ℕ) (xs : List Test) (k : ℕ) (d : Test) → k < length xs → p (get_or xs k d) ≡ true →
    sum_by f (filter p (drop k xs)) ≡ f (get_or xs k d) + sum_by f (filter p (drop (k + 1) xs))
left_yes p f xs k d less yes' =
    let e : drop k xs ≡ get_or xs k d ∷ drop (k + 1) xs = drop_more xs k d less in
    ap (λ v. sum_by f (filter p v)) e ∙ rw yes' (sum_by-cons f (get_or xs k d) (filter p (drop (k + 1) xs)))

pub left_no : (p : Test → Bool) (f : Test → ℕ) (xs : List Test) (k : ℕ) (d : Test) → k < length xs → p (get_or xs k d) ≡ false →
    sum_by f (filter p (drop k xs)) ≡ sum_by f (filter p (drop (k + 1) xs))
left_no p f xs k d less no' =
    let e : drop k xs ≡ get_or xs k d ∷ drop (k + 1) xs = drop_more xs k d less in
    ap (λ v. sum_by f (filter p v)) e ∙ rw no' refl

-- ---- a test of a mode

same_is : (a b : Bool) → same_mode a b ≡ true → b ≡ a
same_is true true h = refl
same_is true false h = absurd cc
same_is false true h = absurd cc
same_is false false h = refl

pub scan_of_mode : (scan : Bool) (t : Test) → is_of_mode scan t ≡ true → t.scan ≡ scan
scan_of_mode scan t h = same_is scan t.scan (and_parts t.tam (same_mode scan t.scan) (and_parts (is_live t) (t.tam && same_mode scan t.scan) h).1).1

-- ---- the designed wrapper is one of its module and mode

some_chosen : (f : ℕ → ℕ) (k : ℕ) → (v : ℕ) × IsChosen f (k + 1) v
some_chosen f zero = (1, chosen_first f)
some_chosen f (suc k) =
    let before = some_chosen f k in
    elim (cases_lt (f (suc k + 1)) (f before.0)) [
      | inl less ↦ (suc k + 1, chosen_new f (k + 1) before.0 (suc k + 1) (omega arith) before.1 less)
      | inr most ↦ (before.0, chosen_old f (k + 1) before.0 (suc k + 1) (omega arith) before.1 most)
    ]

designed_named : (scan : Bool) (width : ℕ) (own : ModuleValue) (w : WrapperValue) → 1 ≤ width →
    ((v : ℕ) → IsChosen (mode_time own scan) width v → w ≡ record { «module» = own.number; scan = scan; chains = design (mode_of own scan) v }) → (w.«module» ≡ own.number) × (w.scan ≡ scan)
designed_named scan width own w some is =
    let same : width - 1 + 1 ≡ width = omega arith in
    let chosen = some_chosen (mode_time own scan) (width - 1) in
    let e = is chosen.0 (subst (λ (n : ℕ). IsChosen (mode_time own scan) n chosen.0) same chosen.1) in
    (ap (λ (v : WrapperValue). v.«module») e, ap (λ (v : WrapperValue). v.scan) e)

pub designed_is_short : (ms : List ModuleValue) (place : ℕ) (scan : Bool) (width : ℕ) (own : ModuleValue) (w : WrapperValue) → slice_get ms place ≡ Some own → 1 ≤ width →
    IfSome (slice_get ms place) (λ m. (v : ℕ) → IsChosen (mode_time m scan) width v → w ≡ record { «module» = m.number; scan = scan; chains = design (mode_of m scan) v }) →
    IfSome (slice_get ms place) (λ m. IsProper m scan w.chains) → 1 ≤ length w.chains → length w.chains ≤ width → IfSome (slice_get ms place) (λ m. time_in m scan w.chains ≡ least_time m scan width) →
    IsShortWrapper own scan width (least_time own scan width) w
designed_is_short ms place scan width own w at some designed proper one few attained =
    let named = designed_named scan width own w some (rw at at designed) in
    let time : time_in own scan w.chains ≡ least_time own scan width = rw at at attained in
    record {
      named = named.0;
      mode = named.1;
      proper = rw at at proper;
      some_chain = one;
      few_chains = few;
      no_longer = omega (arith, time);
    }

pub short_is_proper : (m : ModuleValue) (scan : Bool) (width most : ℕ) (w : WrapperValue) → IsShortWrapper m scan width most w → IsProperWrapper m w
short_is_proper m scan width most w is = subst (λ (s : Bool). IsProper m s w.chains) (sym is.mode) is.proper

pub short_time : (m : ModuleValue) (scan : Bool) (width most : ℕ) (w : WrapperValue) → IsShortWrapper m scan width most w → time_within m w ≤ most
short_time m scan width most w is = subst (λ (s : Bool). time_in m s w.chains ≤ most) (sym is.mode) is.no_longer

-- in no more cycles
pub shorter : (m : ModuleValue) (scan : Bool) (width a b : ℕ) (w : WrapperValue) → a ≤ b → IsShortWrapper m scan width a w → IsShortWrapper m scan width b w
shorter m scan width a b w less is = record {
  named = is.named;
  mode = is.mode;
  proper = is.proper;
  some_chain = is.some_chain;
  few_chains = is.few_chains;
  no_longer = omega (arith, less, is.no_longer);
}

-- the tests of a sound chip are short
pub chip_short : (soc : SocValue) (place : ℕ) (m : ModuleValue) → IsSoundChip soc → slice_get soc.modules place ≡ Some m → HasShortTests m
chip_short soc place m sound at = λ k t there live tam. tam_work-le soc sound place k m t at there live tam
