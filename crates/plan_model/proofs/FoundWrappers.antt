-- The wrapper of a live test over the wires, among the wrappers of a plan.
use Rattle.std.proofs.Common.{◌≡◌, ℕ, Bool, true, false, Some, None, List, [], get_or, map, true≢false, position, nat_eq, refl, sym, ap, subst, ◌∙◌}
use Rattle.std.specs.Prelude.{slice_get, option_map}
use Rattle.std.proofs.lemmas.Bool.{and_parts, eqb-true}
use Rattle.std.proofs.lemmas.List.Quantifiers.{position-Some}
use Rattle.std.proofs.lemmas.Option.{slice_get-get_or, slice_get-map}
use Rattle.soc_model.specs.declared.Test.{Test}
use Rattle.soc_model.specs.Chips.{ModuleValue, SocValue, is_live}
use Rattle.soc_model.specs.Modes.{same_mode}
use Rattle.plan_model.specs.declared.Wrapper.{Wrapper}
use Rattle.plan_model.specs.Cells.{IsProper, chain_cells}
use Rattle.plan_model.specs.Plans.{WrapperValue, PlanValue, wraps, of_first, chains_of}
use Rattle.plan_model.specs.Rules.{Each, HasWrapper, HasProperCells, IsWrapped, used_pairs, pair_of}
use Rattle.plan_model.specs.Views.{wrapper_value, chain_value}
use Rattle.plan_model.proofs.Finding.{of_first_found, none_passes}
use Rattle.plan_model.proofs.Lists.{at_contains}
use Rattle.plan_model.proofs.PlannedTests.{Wrapped, wrapped_by, same_mode_is, wraps_from}
use Rattle.common_lemmas.proofs.Lists.{from_map, contains_at, in_filter}

-- the wrapper that is found for a module in a mode
pub record IsFound (m : ModuleValue) (scan : Bool) (ws : List Wrapper) (k : ℕ) (w : Wrapper) : Type 0 where
  pub at : slice_get (map wrapper_value ws) k ≡ Some (wrapper_value w)
  pub module_is : w.«module» ≡ m.number
  pub scan_is : w.scan ≡ scan
  pub first : of_first (wraps m.number scan) (λ (w : WrapperValue). w.chains) [] (map wrapper_value ws) ≡ map chain_value w.chains.items

pub found_at : (m : ModuleValue) (scan : Bool) (ws : List Wrapper) (k : ℕ) (e w : Wrapper) → position (λ (w : Wrapper). wraps m.number scan (wrapper_value w)) ws ≡ Some k → w ≡ get_or ws k e → IsFound m scan ws k w
found_at m scan ws k e w found is =
    let r = position-Some (λ (w : Wrapper). wraps m.number scan (wrapper_value w)) ws k e found in
    let passes : wraps m.number scan (wrapper_value w) ≡ true = subst (λ (v : Wrapper). wraps m.number scan (wrapper_value v) ≡ true) (sym is) r.1 in
    let parts = and_parts (nat_eq w.«module» m.number) (same_mode w.scan scan) passes in
    let there : slice_get ws k ≡ Some w = slice_get-get_or ws k e r.0 ∙ ap Some (sym is) in
    record {
      at = slice_get-map wrapper_value ws k ∙ rw there refl;
      module_is = eqb-true w.«module» m.number parts.0;
      scan_is = same_mode_is w.scan scan parts.1;
      first = of_first_found wrapper_value (wraps m.number scan) (λ (w : WrapperValue). w.chains) [] ws k e w found is;
    }

-- its pair
pair_found : (m : ModuleValue) (scan : Bool) (w : WrapperValue) → w.«module» ≡ m.number → w.scan ≡ scan → pair_of w ≡ (m.number, scan)
pair_found m scan w number mode = ap (λ (n : ℕ). (n, w.scan)) number ∙ ap (λ (b : Bool). (m.number, b)) mode

-- it is proper
pub proper_found : (m : ModuleValue) (t : Test) (ws : List Wrapper) (k : ℕ) (w : Wrapper) → IsWrapped m t (map wrapper_value ws) → IsFound m t.scan ws k w → IsProper m w.scan (map chain_value w.chains.items)
proper_found m t ws k w wrapped found =
    subst (λ (scan : Bool). IsProper m scan (map chain_value w.chains.items)) (sym found.scan_is) (wrapped.proper k (wrapper_value w) found.at (pair_found m t.scan (wrapper_value w) found.module_is found.scan_is))

-- its chains are those of the test
pub chains_found : (plan : PlanValue) (m : ModuleValue) (t : Test) (ws : List Wrapper) (k : ℕ) (w : Wrapper) → plan.wrappers ≡ map wrapper_value ws → t.tam ≡ true → IsFound m t.scan ws k w → chain_cells m t.scan (map chain_value w.chains.items) ≡ chains_of plan m t
chains_found plan m t ws k w are tam found = rw (tam, are, found.first) refl

pub always_found : (m : ModuleValue) (t : Test) (ws : List Wrapper) → IsWrapped m t (map wrapper_value ws) → position (λ (w : Wrapper). wraps m.number t.scan (wrapper_value w)) ws ≡ None → ⊥
always_found m t ws wrapped none =
    let at = contains_at (map pair_of (map wrapper_value ws)) (m.number, t.scan) wrapped.there in
    let v = from_map pair_of (map wrapper_value ws) at.0 (m.number, t.scan) at.1 in
    let w = from_map wrapper_value ws at.0 v.0 v.1 in
    let fails : wraps m.number t.scan (wrapper_value w.0) ≡ false = none_passes (λ (w : Wrapper). wraps m.number t.scan (wrapper_value w)) ws none at.0 w.0 w.1 in
    let passes : wraps m.number t.scan v.0 ≡ true = wraps_from v.0 m.number t.scan (ap (λ (p : ℕ × Bool). p.0) v.2) (ap (λ (p : ℕ × Bool). p.1) v.2) in
    true≢false (sym passes ∙ ap (wraps m.number t.scan) (sym w.2) ∙ fails)

-- where each pair has a wrapper and each wrapper is proper, each live test over the wires is wrapped
pub wrapped_test : (soc : SocValue) (plan : PlanValue) → Each (HasWrapper plan) (used_pairs soc) → Each (HasProperCells soc) plan.wrappers → (p k : ℕ) (m : ModuleValue) (t : Test) → slice_get soc.modules p ≡ Some m → slice_get m.tests k ≡ Some t → is_live t ≡ true → t.tam ≡ true → IsWrapped m t plan.wrappers
wrapped_test soc plan have proper p k m t at there live tam =
    let n = in_filter is_live m.tests k t there live in
    let w : Wrapped plan m t = wrapped_by soc plan have p n.0 m t at n.1 tam in
    record {
      there = at_contains (map pair_of plan.wrappers) w.n (m.number, t.scan) (slice_get-map pair_of plan.wrappers w.n ∙ ap (option_map pair_of) w.at ∙ ap Some (pair_found m t.scan w.w w.module_is w.scan_is));
      proper = λ j v here pair. subst (λ (scan : Bool). IsProper m scan v.chains) (ap (λ (p : ℕ × Bool). p.1) pair) (proper j v here p m at (sym (ap (λ (p : ℕ × Bool). p.0) pair)));
    }
