-- The wrappers of the width table keep the rules of plans on wrappers.
use Rattle.std.proofs.Common.{◌≡◌, ℕ, suc, ◌+◌, ◌≤◌, ◌<◌, Bool, true, false, cond, nat_eq, Some, List, [], ◌∷◌, ◌++◌, length, get_or, map, option_map, take, refl, ap, ◌∙◌, sym, subst, arith, inl, inr, eq-eqb, slice_get, slice_index, ◌&&◌, if◌then◌else◌, sum_by, count_by}
use Rattle.std.proofs.lemmas.Bool.{eqb-true, cases_Bool}
use Rattle.std.proofs.lemmas.List.{take-map}
use Rattle.std.proofs.lemmas.List.Sums.{sum_by-append}
use Rattle.std.proofs.lemmas.Option.{slice_get-map}
use Rattle.soc_model.specs.Chips.{ModuleValue, SocValue, numbers}
use Rattle.soc_model.specs.SoundChips.{AllDiffer}
use Rattle.plan_model.specs.Cells.{ChainValue, IsProper}
use Rattle.plan_model.specs.Plans.{BusValue, WrapperValue, PlanValue, has_module, widths, bus_place}
use Rattle.soc_model.specs.Modes.{same_mode, uses_mode}
use Rattle.plan_model.specs.Rules.{Each, IsNew, IsFitting, HasWrapper, HasProperCells, pair_of, used_pairs, mode_pair}
use Rattle.plan_model.proofs.Lists.{at_contains}
use Rattle.plan_model.proofs.Sums.{sum_by-le_at, two-le-sum_by, at_most_one, one_if}
use Rattle.wrapper_design.specs.Design.{mode_of, design}
use Rattle.wrapper_design.proofs.Laws.{design_width, design_proper}
use Rattle.planner.specs.Wrapping.{bus_width, IsWrapperOnBus, AreTableWrappers}
use Rattle.planner.proofs.Lists.{count_flat}
use Rattle.common_lemmas.proofs.Lists.{from_take, all_at, contains_at}

-- ---- the width of the first bus that lists a module, by its place

record FoundBus (m k : ℕ) (buses : List BusValue) : Type 0 where
  up : ℕ
  place : bus_place m k buses ≡ k + up
  width : get_or (map (λ (b : BusValue). b.width) buses) up 0 ≡ bus_width buses m

found_bus : (m k : ℕ) (buses : List BusValue) → FoundBus m k buses
found_bus m k [] = record { up = 0; place = omega arith; width = refl }
found_bus m k (b ∷ buses) = elim (cases_Bool (has_module m b)) [
  | inl yes' ↦ record { up = 0; place = rw yes' (omega arith); width = rw yes' refl }
  | inr no' ↦
      let r : FoundBus m (k + 1) buses = found_bus m (k + 1) buses in
      record { up = suc r.up; place = rw no' (omega (arith, r.place)); width = rw no' r.width }
]

pub width_at : (m : ℕ) (buses : List BusValue) → slice_index (map (λ (b : BusValue). b.width) buses) (bus_place m 0 buses) ≡ bus_width buses m
width_at m buses =
    let r : FoundBus m 0 buses = found_bus m 0 buses in
    let here : bus_place m 0 buses ≡ r.up = omega (arith, r.place) in
    ap (λ n. get_or (map (λ (b : BusValue). b.width) buses) n 0) here ∙ r.width

-- ---- no pair is used twice

abbrev same_pair : ℕ × Bool → ℕ × Bool → Bool
same_pair a b = nat_eq b.0 a.0 && same_mode b.1 a.1

same_itself : (a : ℕ × Bool) → same_pair a a ≡ true
same_itself a = rw (eq-eqb a.0 a.0 refl) (by a.1) where
  by : (b : Bool) → same_mode b b ≡ true
  by true = refl
  by false = refl

one_mode : (p : ℕ × Bool → Bool) (used : Bool) (x : ℕ × Bool) → count_by p (if used then x ∷ [] else []) ≤ one_if (p x)
one_mode p true x = elim (cases_Bool (p x)) [ inl yes' ↦ rw yes' (omega arith) | inr no' ↦ rw no' (omega arith) ]
one_mode p false x = omega arith

modes_of_one : (n number : ℕ) (scan : Bool) → one_if (same_pair (n, scan) (number, true)) + one_if (same_pair (n, scan) (number, false)) ≤ one_if (nat_eq number n)
modes_of_one n number scan = elim (cases_Bool (nat_eq number n)) [ inl yes' ↦ rw yes' (by scan) | inr no' ↦ rw no' (omega arith) ] where
  by : (scan : Bool) → one_if (same_mode true scan) + one_if (same_mode false scan) ≤ 1
  by true = omega arith
  by false = omega arith

in_module : (n : ℕ) (scan : Bool) (m : ModuleValue) → count_by (same_pair (n, scan)) (mode_pair true m ++ mode_pair false m) ≤ one_if (nat_eq m.number n)
in_module n scan m =
    let split = sum_by-append (λ (x : ℕ × Bool). cond (same_pair (n, scan) x) 1 0) (mode_pair true m) (mode_pair false m) in
    let a = one_mode (same_pair (n, scan)) (uses_mode true m) (m.number, true) in
    let b = one_mode (same_pair (n, scan)) (uses_mode false m) (m.number, false) in
    omega (arith, split, a, b, modes_of_one n m.number scan)

one_module : (soc : SocValue) → AllDiffer (numbers soc) → (n : ℕ) → sum_by (λ (m : ModuleValue). one_if (nat_eq m.number n)) soc.modules ≤ 1
one_module soc differ n = at_most_one (λ (m : ModuleValue). nat_eq m.number n) soc.modules (λ i j x y less at at' px py.
    let a : slice_get (numbers soc) i ≡ Some n = slice_get-map (λ (m : ModuleValue). m.number) soc.modules i ∙ ap (option_map (λ (m : ModuleValue). m.number)) at ∙ ap Some (eqb-true x.number n px) in
    let b : slice_get (numbers soc) j ≡ Some n = slice_get-map (λ (m : ModuleValue). m.number) soc.modules j ∙ ap (option_map (λ (m : ModuleValue). m.number)) at' ∙ ap Some (eqb-true y.number n py) in
    let same : i ≡ j = differ i j n a b in
    absurd (omega arith))

few_pairs : (soc : SocValue) → AllDiffer (numbers soc) → (pair : ℕ × Bool) → count_by (same_pair pair) (used_pairs soc) ≤ 1
few_pairs soc differ pair =
    let flat = count_flat (same_pair pair) (λ (m : ModuleValue). mode_pair true m ++ mode_pair false m) soc.modules in
    let each = sum_by-le_at (λ (m : ModuleValue). count_by (same_pair pair) (mode_pair true m ++ mode_pair false m)) (λ (m : ModuleValue). one_if (nat_eq m.number pair.0)) soc.modules (λ i m at. in_module pair.0 pair.1 m) in
    omega (arith, flat, each, one_module soc differ pair.0)

pub pair_once : (soc : SocValue) → AllDiffer (numbers soc) → (k n : ℕ) (pair : ℕ × Bool) → k < n → slice_get (used_pairs soc) k ≡ Some pair → slice_get (used_pairs soc) n ≡ Some pair → ⊥
pair_once soc differ k n pair less at at' =
    let two = two-le-sum_by (λ (x : ℕ × Bool). cond (same_pair pair x) 1 0) (used_pairs soc) k n pair pair less at at' in
    let one : cond {A = ℕ} (same_pair pair pair) 1 0 ≡ 1 = rw (same_itself pair) refl in
    omega (arith, few_pairs soc differ pair, two, one)

-- ---- the rules

module _ (soc : SocValue) (plan : PlanValue) (differ : AllDiffer (numbers soc)) (made : AreTableWrappers soc plan.buses plan.wrappers) where
  pair_at : (n : ℕ) (w : WrapperValue) → slice_get plan.wrappers n ≡ Some w → slice_get (used_pairs soc) n ≡ Some (pair_of w)
  pair_at n w at = ap (λ (ps : List (ℕ × Bool)). slice_get ps n) (sym made.pairs) ∙ slice_get-map pair_of plan.wrappers n ∙ ap (option_map pair_of) at

  wrapper_at : (n : ℕ) (w : WrapperValue) → slice_get plan.wrappers n ≡ Some w → IsWrapperOnBus soc plan.buses w
  wrapper_at n w at = all_at (IsWrapperOnBus soc plan.buses) plan.wrappers n w made.on_buses at

  new_pair : (n : ℕ) (w : WrapperValue) → slice_get plan.wrappers n ≡ Some w → IsNew (map pair_of (take n plan.wrappers)) (pair_of w)
  new_pair n w at c =
      let pairs : map pair_of (take n plan.wrappers) ≡ take n (used_pairs soc) = sym (take-map pair_of n plan.wrappers) ∙ ap (λ (ps : List (ℕ × Bool)). take n ps) made.pairs in
      let k = contains_at (map pair_of (take n plan.wrappers)) (pair_of w) c in
      let f = from_take (used_pairs soc) n k.0 (pair_of w) (ap (λ (ps : List (ℕ × Bool)). slice_get ps k.0) (sym pairs) ∙ k.1) in
      pair_once soc differ k.0 n (pair_of w) f.0 f.1 (pair_at n w at)

  chains_long : (w : WrapperValue) → (on : IsWrapperOnBus soc plan.buses w) → length w.chains ≡ on.wrapper.chosen
  chains_long w on = ap length on.wrapper.designed ∙ design_width (mode_of on.core w.scan) on.wrapper.chosen

  pub all_fitting : Each (IsFitting soc plan) plan.wrappers
  all_fitting n w at =
      let on : IsWrapperOnBus soc plan.buses w = wrapper_at n w at in
      let long = chains_long w on in
      let width : slice_index (widths plan) (bus_place w.«module» 0 plan.buses) ≡ bus_width plan.buses on.core.number = width_at w.«module» plan.buses ∙ ap (bus_width plan.buses) on.wrapper.of in
      record {
        used = at_contains (used_pairs soc) n (pair_of w) (pair_at n w at);
        new = new_pair n w at;
        some_chain = omega (arith, on.wrapper.is_chosen.some);
        on_wires = omega (arith, on.wrapper.is_chosen.within);
      }

  pub all_have : Each (HasWrapper plan) (used_pairs soc)
  all_have n pair at = at_contains (map pair_of plan.wrappers) n pair (ap (λ (ps : List (ℕ × Bool)). slice_get ps n) made.pairs ∙ at)

  number_at : (p : ℕ) (m : ModuleValue) (n : ℕ) → slice_get soc.modules p ≡ Some m → m.number ≡ n → slice_get (numbers soc) p ≡ Some n
  number_at p m n at e = slice_get-map (λ (m : ModuleValue). m.number) soc.modules p ∙ ap (option_map (λ (m : ModuleValue). m.number)) at ∙ ap Some e

  pub all_proper : Each (HasProperCells soc) plan.wrappers
  all_proper n w at p m at' number =
      let on : IsWrapperOnBus soc plan.buses w = wrapper_at n w at in
      let same : p ≡ on.place = differ p on.place w.«module» (number_at p m w.«module» at' number) (number_at on.place on.core w.«module» on.there (sym on.wrapper.of)) in
      let core : m ≡ on.core = cc (ap (slice_get soc.modules) same, at', on.there) in
      let proper : IsProper on.core w.scan (design (mode_of on.core w.scan) on.wrapper.chosen) = design_proper on.core w.scan on.wrapper.chosen on.wrapper.is_chosen.some in
      subst (λ (v : ModuleValue). IsProper v w.scan w.chains) (sym core) (subst (λ (cs : List ChainValue). IsProper on.core w.scan cs) (sym on.wrapper.designed) proper)
