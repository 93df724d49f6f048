-- The cycles of one test, from the longest paths of the choice for its mode.
use Rattle.std.proofs.Common.{◌≡◌, ℕ, zero, suc, ◌+◌, ◌*◌, ◌^◌, ◌≤◌, max, min, Bool, true, Some, List, [], ◌∷◌, length, refl, ◌∙◌, subst, arith, inl, inr}
use Rattle.std.specs.Prelude.{slice_get, IfSome}
use Rattle.std.specs.List.{filter}
use Rattle.std.proofs.lemmas.Bool.{cases_Bool, ltb-true}
use Rattle.soc_model.specs.declared.Test.{Test}
use Rattle.soc_model.specs.Chips.{ModuleValue, SocValue, is_live}
use Rattle.soc_model.specs.Modes.{is_of_mode}
use Rattle.soc_model.specs.SoundChips.{IsSoundChip}
use Rattle.plan_model.specs.Listing.{module_size}
use Rattle.plan_model.specs.Operations.{ops_of}
use Rattle.plan_model.proofs.ChainLengths.{time_within}
use Rattle.plan_model.proofs.SoundChips.{tam_work-le}
use Rattle.wrapper_design.specs.Design.{mode_of}
use Rattle.wrapper_design.proofs.Laws.{design_bounded}
use Rattle.width_table.specs.Times.{IsChosen, mode_time, test_time}
use Rattle.width_table.specs.Choices.{HasPaths, IsChoice}
use Rattle.width_table.specs.declared.choosing.Choice.{Choice}
use Rattle.width_table.proofs.LeastWidths.{chosen_unique}
use Rattle.width_table.proofs.Work.{flops_le}

-- a test of a module, by its place
abbrev pub HasTest : ModuleValue → Test → Type 0
HasTest m t = (k : ℕ) × (slice_get m.tests k ≡ Some t)

own_mode : (t : Test) → is_live t ≡ true → t.tam ≡ true → is_of_mode t.scan t ≡ true
own_mode t live tam = elim (cases_Bool t.scan) [
  | inl yes' ↦ rw (live, tam, yes') refl
  | inr no' ↦ rw (live, tam, no') refl
]

some_passes : (p : Test → Bool) (ts : List Test) (k : ℕ) (t : Test) → slice_get ts k ≡ Some t → p t ≡ true → 1 ≤ length (filter p ts)
some_passes p [] k t at is = absurd cc
some_passes p (u ∷ ts) zero t at is = let same : u ≡ t = cc in rw (same, is) (omega arith)
some_passes p (u ∷ ts) (suc k) t at is =
    let ih : 1 ≤ length (filter p ts) = some_passes p ts k t at is in
    elim (cases_Bool (p u)) [
      | inl yes' ↦ rw yes' (omega arith)
      | inr no' ↦ rw no' ih
    ]

-- the paths of the choice for the mode of a test
paths_of : (m : ModuleValue) (t : Test) (width : ℕ) (c : Choice) → HasTest m t → is_live t ≡ true → t.tam ≡ true → IsChoice m t.scan width c → HasPaths (mode_of m t.scan) c
paths_of m t width c there live tam is = is.paths (some_passes (is_of_mode t.scan) m.tests there.0 t there.1 (own_mode t live tam))

-- its cycles fit
pub test_fits : (soc : SocValue) (place : ℕ) (m : ModuleValue) (t : Test) (width : ℕ) (c : Choice) → IsSoundChip soc → slice_get soc.modules place ≡ Some m → IfSome (slice_get soc.modules place) (λ m. HasTest m t) → is_live t ≡ true → t.tam ≡ true → IfSome (slice_get soc.modules place) (λ m. IsChoice m t.scan width c) →
    m.setup + (1 + max c.si c.so) * t.patterns + min c.si c.so ≤ 10 ^ 18
test_fits soc place m t width c sound at has live tam is =
    let there : HasTest m t = rw at at has in
    let here : IsChoice m t.scan width c = rw at at is in
    let paths = paths_of m t width c there live tam here in
    let short = design_bounded (mode_of m t.scan) c.width here.chosen.some in
    let within : 1 + c.si + c.so ≤ module_size m = omega (arith, paths.si, paths.so, short.0, short.1, flops_le m t.scan) in
    time_within m.setup c.si c.so t.patterns (module_size m) (10 ^ 18) (ltb-true 0 t.patterns live) within (tam_work-le soc sound place there.0 m t at there.1 live tam)

-- they are those in the design at any chosen width
pub test_time_is : (ms : List ModuleValue) (place : ℕ) (m : ModuleValue) (t : Test) (width n : ℕ) (c : Choice) → slice_get ms place ≡ Some m → IfSome (slice_get ms place) (λ m. HasTest m t) → is_live t ≡ true → t.tam ≡ true → IfSome (slice_get ms place) (λ m. IsChoice m t.scan width c) → n ≡ length (ops_of m.setup c.si c.so t.patterns) →
    IfSome (slice_get ms place) (λ m. (v : ℕ) → IsChosen (mode_time m t.scan) width v → n ≡ test_time m t v)
test_time_is ms place m t width n c at has live tam is ops =
    let there : HasTest m t = rw at at has in
    let here : IsChoice m t.scan width c = rw at at is in
    let paths = paths_of m t width c there live tam here in
    let own : n ≡ test_time m t c.width = rw tam (ops ∙ rw (paths.si, paths.so) refl) in
    rw at (λ v chosen. subst (λ (w : ℕ). n ≡ test_time m t w) (chosen_unique (mode_time m t.scan) width c.width v here.chosen chosen) own)
