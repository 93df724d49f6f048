-- What every table of a sound chip keeps.
use Rattle.std.proofs.Common.{◌≡◌, ℕ, zero, suc, ◌+◌, ◌*◌, ◌≤◌, ◌<◌, max, Bool, true, false, Option, None, Some, List, [], ◌∷◌, length, refl, ◌∙◌, arith, inl, inr, ltb}
use Rattle.std.specs.Prelude.{◌&&◌, slice_get, IfSome, if◌then◌else◌}
use Rattle.std.specs.List.{sum_by, sum, filter, list_any}
use Rattle.std.proofs.lemmas.List.Sums.{sum_by-cons}
use Rattle.std.proofs.lemmas.Bool.{cases_Bool, and_parts, or_parts, false_from_ne_true, lt-ltb, le-ltb}
use Rattle.std.proofs.lemmas.Option.{slice_get_within}
use Rattle.std.proofs.Math.Nat.{mul-le-mul_right}
use Rattle.soc_model.specs.declared.Test.{Test}
use Rattle.soc_model.specs.Chips.{ModuleValue, is_live}
use Rattle.soc_model.specs.Sizes.{test_work}
use Rattle.soc_model.specs.SoundChips.{IsSoundChip}
use Rattle.soc_model.proofs.Sums.{work_in, work-modules}
use Rattle.soc_model.proofs.Limits.{work-le}
use Rattle.plan_model.specs.Cells.{chain_cells}
use Rattle.soc_model.specs.Modes.{scan_lengths}
use Rattle.plan_model.specs.Operations.{ops_of}
use Rattle.plan_model.specs.Plans.{si_of, so_of}
use Rattle.soc_model.specs.Modes.{same_mode}
use Rattle.plan_model.specs.Bounds.{sum_below, least_from_one}
use Rattle.soc_model.specs.Modes.{has_tam}
use Rattle.plan_model.specs.Certificates.{passes}
use Rattle.plan_model.proofs.Sums.{item-le-sum_by, sum_by-filter}
use Rattle.plan_model.proofs.OperationCounts.{ops_length}
use Rattle.wrapper_design.specs.Design.{mode_of, design}
use Rattle.wrapper_design.specs.Balance.{in_length_of, out_length_of}
use Rattle.wrapper_design.proofs.Laws.{design_bounded}
use Rattle.width_table.specs.Times.{mode_time, time, IsChosen}
use Rattle.soc_model.specs.Modes.{is_of_mode}
use Rattle.width_table.specs.Tables.{TableValue, IsTable, places_of, time_if, time_of}
use Rattle.width_table.proofs.Work.{live_of_mode, tam_of_mode, one_test, over_wires, idle_time}
use Rattle.plan_model.proofs.FirstAndLeast.{least-ge, least-zero}
use Rattle.width_table.proofs.LeastWidths.{time_falls, time_of_chosen, module_there}
use Rattle.common_lemmas.proofs.Lists.{any_at}

-- ---- the time on one wire is within the work

other_mode : (t : Test) → is_of_mode true t ≡ true → is_of_mode false t ≡ false
other_mode t h =
    let both = and_parts (is_live t) (t.tam && same_mode true t.scan) h in
    let scan : t.scan ≡ true = (and_parts t.tam (same_mode true t.scan) both.1).1 in
    rw (both.0, tam_of_mode true t h, scan) refl

-- tests of both modes, in chains of these lengths
both_within : (m : ModuleValue) (si so si' so' : ℕ) (ts : List Test) →
    si ≤ (m.inputs + m.bidirs) + sum (scan_lengths m true) → so ≤ (m.outputs + m.bidirs) + sum (scan_lengths m true) → si' ≤ (m.inputs + m.bidirs) + sum (scan_lengths m false) → so' ≤ (m.outputs + m.bidirs) + sum (scan_lengths m false) →
    sum_by (λ (t : Test). length (ops_of m.setup si so t.patterns)) (filter (is_of_mode true) ts) + sum_by (λ (t : Test). length (ops_of m.setup si' so' t.patterns)) (filter (is_of_mode false) ts) ≤ sum_by (test_work m) (filter is_live ts)
both_within m si so si' so' [] a b a' b' = omega arith
both_within m si so si' so' (t ∷ ts) a b a' b' =
    let f : Test → ℕ = λ t. length (ops_of m.setup si so t.patterns) in
    let g : Test → ℕ = λ t. length (ops_of m.setup si' so' t.patterns) in
    let ih : sum_by f (filter (is_of_mode true) ts) + sum_by g (filter (is_of_mode false) ts) ≤ sum_by (test_work m) (filter is_live ts) = both_within m si so si' so' ts a b a' b' in
    let split : sum_by (test_work m) (t ∷ filter is_live ts) ≡ test_work m t + sum_by (test_work m) (filter is_live ts) = sum_by-cons (test_work m) t (filter is_live ts) in
    elim (cases_Bool (is_of_mode true t)) [
      | inl yes' ↦
          let live : is_live t ≡ true = (and_parts (is_live t) (t.tam && same_mode true t.scan) yes').0 in
          rw (yes', other_mode t yes', live) (omega (arith, one_test m true t si so yes' a b, sum_by-cons f t (filter (is_of_mode true) ts)))
      | inr no' ↦ elim (cases_Bool (is_of_mode false t)) [
        | inl yes' ↦
            let live : is_live t ≡ true = (and_parts (is_live t) (t.tam && same_mode false t.scan) yes').0 in
            rw (no', yes', live) (omega (arith, one_test m false t si' so' yes' a' b', sum_by-cons g t (filter (is_of_mode false) ts)))
        | inr neither ↦ elim (cases_Bool (is_live t)) [
          | inl live ↦ rw (no', neither, live) (omega arith)
          | inr idle ↦ rw (no', neither, idle) ih
        ]
      ]
    ]

one_wire : (m : ModuleValue) → time m 1 ≤ work_in m
unfolding time mode_time
one_wire m =
    let a = design_bounded (mode_of m true) 1 (omega arith) in
    let b = design_bounded (mode_of m false) 1 (omega arith) in
    omega (
      arith,
      over_wires m true (chain_cells m true (design (mode_of m true) 1)) m.tests,
      over_wires m false (chain_cells m false (design (mode_of m false) 1)) m.tests,
      both_within m (in_length_of (mode_of m true) (design (mode_of m true) 1)) (out_length_of (mode_of m true) (design (mode_of m true) 1)) (in_length_of (mode_of m false) (design (mode_of m false) 1)) (out_length_of (mode_of m false) (design (mode_of m false) 1)) m.tests a.0 a.1 b.0 b.1,
    )

first_of_sum : (f : ℕ → ℕ) (n : ℕ) → sum_below f (suc n) ≡ f 0 + sum_below (λ i. f (suc i)) n
unfolding sum_below
first_of_sum f zero = omega arith
first_of_sum f (suc n) =
    let ih : sum_below f (suc n) ≡ f 0 + sum_below (λ i. f (suc i)) n = first_of_sum f n in
    omega arith

sum_of_places : (ms : List ModuleValue) → sum_below (λ p. time_if 1 (slice_get ms p)) (length ms) ≡ sum_by (λ m. time m 1) ms
unfolding sum_below
sum_of_places [] = refl
sum_of_places (m ∷ ms) = first_of_sum (λ p. time_if 1 (slice_get (m ∷ ms) p)) (length ms) ∙ omega (arith, sum_of_places ms, sum_by-cons (λ m. time m 1) m ms)

one_wire_all : (ms : List ModuleValue) → sum_by (λ m. time m 1) ms ≤ sum_by work_in ms
one_wire_all [] = omega arith
one_wire_all (m ∷ ms) = omega (arith, one_wire m, one_wire_all ms, sum_by-cons (λ m. time m 1) m ms, sum_by-cons work_in m ms)

-- ---- a time exactly where there is a test over the wires

none_of_mode : (scan : Bool) (ts : List Test) → list_any (λ (t : Test). is_live t && t.tam) ts ≡ false → length (filter (is_of_mode scan) ts) ≡ 0
none_of_mode scan [] h = refl
none_of_mode scan (t ∷ ts) h =
    let parts = or_parts (is_live t && t.tam) (list_any (λ (t : Test). is_live t && t.tam) ts) h in
    let not_of : is_of_mode scan t ≡ false = false_from_ne_true (is_of_mode scan t) (λ yes'.
    let live : is_live t ≡ true = (and_parts (is_live t) (t.tam && same_mode scan t.scan) yes').0 in
    let wrong : is_live t && t.tam ≡ true = rw (live, tam_of_mode scan t yes') refl in
    cc) in
    rw not_of (none_of_mode scan ts parts.1)

no_time : (m : ModuleValue) (w : ℕ) → has_tam m ≡ false → time m w ≡ 0
unfolding time
no_time m w h =
    let none : (scan : Bool) → least_from_one (mode_time m scan) w ≡ 0 = λ scan. least-zero (mode_time m scan) w (λ u. idle_time m scan u (none_of_mode scan m.tests h)) in
    omega (arith, none true, none false)

mode_has_time : (m : ModuleValue) (scan : Bool) (k : ℕ) (t : Test) → slice_get m.tests k ≡ Some t → is_of_mode scan t ≡ true → (v : ℕ) → 1 ≤ mode_time m scan v
unfolding mode_time
mode_has_time m scan k t at h v =
    let si : ℕ = si_of (chain_cells m scan (design (mode_of m scan) v)) in
    let so : ℕ = so_of (chain_cells m scan (design (mode_of m scan) v)) in
    let f : Test → ℕ = λ t. length (ops_of m.setup si so t.patterns) in
    let live : 1 ≤ t.patterns = live_of_mode scan t h in
    let product : 1 * t.patterns ≤ (1 + max si so) * t.patterns = mul-le-mul_right t.patterns (omega arith) in
    let long : 1 ≤ f t = omega (arith, ops_length m.setup si so t.patterns live) in
    let item : (if is_of_mode scan t then f t else 0) ≤ sum_by (λ (t : Test). if is_of_mode scan t then f t else 0) m.tests = item-le-sum_by (λ (t : Test). if is_of_mode scan t then f t else 0) m.tests k t at in
    let item' : f t ≤ sum_by (λ (t : Test). if is_of_mode scan t then f t else 0) m.tests = rw h at item in
    omega (arith, over_wires m scan (chain_cells m scan (design (mode_of m scan) v)) m.tests, sum_by-filter (is_of_mode scan) f m.tests)

has_time : (m : ModuleValue) (w : ℕ) → 1 ≤ w → has_tam m ≡ true → 1 ≤ time m w
unfolding time
has_time m w some h =
    let r = any_at (λ (t : Test). is_live t && t.tam) m.tests h in
    let both = and_parts (is_live r.1) (r.1).tam r.3 in
    elim (cases_Bool (r.1).scan) [
      | inl scan ↦
          let is : is_of_mode true r.1 ≡ true = rw (both.0, both.1, scan) refl in
          let least : 1 ≤ least_from_one (mode_time m true) w = least-ge (mode_time m true) 1 w some (λ u a b. mode_has_time m true r.0 r.1 r.2 is u) in
          omega arith
      | inr terminals ↦
          let is : is_of_mode false r.1 ≡ true = rw (both.0, both.1, terminals) refl in
          let least : 1 ≤ least_from_one (mode_time m false) w = least-ge (mode_time m false) 1 w some (λ u a b. mode_has_time m false r.0 r.1 r.2 is u) in
          omega arith
    ]

-- ---- by place

tested_at : (o : Option ModuleValue) (w : ℕ) → 1 ≤ w → ltb 0 (time_if w o) ≡ passes has_tam o
tested_at None w some = refl
tested_at (Some m) w some = elim (cases_Bool (has_tam m)) [
  | inl yes' ↦ rw yes' (lt-ltb 0 (time m w) (omega (arith, has_time m w some yes')))
  | inr no' ↦ rw no' (le-ltb 0 (time m w) (omega (arith, no_time m w no')))
]

falls_at : (o : Option ModuleValue) (v w : ℕ) → 1 ≤ v → v ≤ w → time_if w o ≤ time_if v o
falls_at None v w some le = omega arith
falls_at (Some m) v w some le = time_falls m v w some le

there : (o : Option ModuleValue) → passes has_tam o ≡ true → (m : ModuleValue) × (o ≡ Some m)
there None h = cc
there (Some m) h = (m, refl)

pub falls_in : (table : TableValue) (p v w : ℕ) → 1 ≤ v → v ≤ w → time_of table p w ≤ time_of table p v
unfolding time_of
falls_in table p v w some le = falls_at (slice_get table.soc.modules p) v w some le

attained_at : (o : Option ModuleValue) (w n : ℕ) → n ≡ time_if w o → IfSome o (λ m. (v u : ℕ) → IsChosen (mode_time m true) w v → IsChosen (mode_time m false) w u → n ≡ mode_time m true v + mode_time m false u)
attained_at None w n is = tt
attained_at (Some m) w n is = λ v u a b. is ∙ time_of_chosen m w v u a b

-- at any two chosen widths the modes take the time
pub attained_in : (table : TableValue) (p w n : ℕ) → n ≡ time_of table p w → IfSome (slice_get table.soc.modules p) (λ m. (v u : ℕ) → IsChosen (mode_time m true) w v → IsChosen (mode_time m false) w u → n ≡ mode_time m true v + mode_time m false u)
unfolding time_of
attained_in table p w n is = attained_at (slice_get table.soc.modules p) w n is

-- what is the time of the module that stands there
pub time_there : (table : TableValue) (p w : ℕ) → p < places_of table → (n : ℕ) → IfSome (slice_get table.soc.modules p) (λ m. n ≡ time m w) → n ≡ time_of table p w
unfolding time_of
time_there table p w less n h =
    let m = module_there table.soc p less in
    let is : n ≡ time m.0 w = rw m.1 at h in
    rw m.1 is

pub table_laws : (table : TableValue) → IsSoundChip table.soc → 1 ≤ table.wires → table.wires ≤ 256 → IsTable table
unfolding time_of
table_laws table sound some few = record {
  sound = sound;
  some_wires = some;
  few_wires = few;
  in_range = λ p h. let m = there (slice_get table.soc.modules p) h in slice_get_within table.soc.modules p m.0 m.1;
  falls = falls_in table;
  tested = λ p w some. tested_at (slice_get table.soc.modules p) w some;
  bounded = omega (arith, sum_of_places table.soc.modules, one_wire_all table.soc.modules, work-modules table.soc, work-le table.soc sound.size);
}
