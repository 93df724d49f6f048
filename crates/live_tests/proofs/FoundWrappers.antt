-- The wrapper that is found for a module in a mode, with its longest paths.
use Rattle.std.proofs.Common.{◌≡◌, ℕ, ◌+◌, ◌≤◌, Bool, Some, List, [], ◌∷◌, get_or, map, position, refl, sym, ap, subst, ◌∙◌, inl, inr}
use Rattle.std.specs.Prelude.{slice_get}
use Rattle.std.specs.List.{position_or_len}
use Rattle.std.proofs.lemmas.Bool.{cases_Bool}
use Rattle.std.proofs.lemmas.List.{length-map}
use Rattle.soc_model.specs.Chips.{ModuleValue, SocValue}
use Rattle.plan_model.specs.declared.Wrapper.{Wrapper}
use Rattle.plan_model.specs.Cells.{IsProper, chain_cells}
use Rattle.plan_model.specs.Listing.{module_size}
use Rattle.plan_model.specs.Plans.{PlanValue, WrapperValue, of_first, si_of, so_of, wraps}
use Rattle.plan_model.specs.Rules.{Each, HasProperCells}
use Rattle.plan_model.specs.Views.{chain_value, wrapper_value}
use Rattle.plan_model.proofs.FoundWrappers.{IsFound, found_at}
use Rattle.live_tests.specs.declared.wrapped.ModeWrapper.{ModeWrapper}
use Rattle.live_tests.specs.Wrapped.{IsModeWrapper}

position-map : {X Y : Type 0} (f : X → Y) (p : Y → Bool) (xs : List X) → position p (map f xs) ≡ position (λ x. p (f x)) xs
position-map {X} f p xs = rw (first_of xs, length-map xs f) refl where
  first_of : (xs : List X) → position_or_len p (map f xs) ≡ position_or_len (λ x. p (f x)) xs
  first_of [] = refl
  first_of (x ∷ xs) = elim (cases_Bool (p (f x))) [ inl yes' ↦ rw yes' refl | inr no' ↦ rw no' (ap (λ v. 1 + v) (first_of xs)) ]

pub wrapper_found : (m : ModuleValue) (scan : Bool) (ws : List Wrapper) (k : ℕ) (w : Wrapper) → position (wraps m.number scan) (map wrapper_value ws) ≡ Some k → w ≡ get_or ws k w → IsFound m scan ws k w
wrapper_found m scan ws k w found is = found_at m scan ws k w w (sym (position-map wrapper_value (wraps m.number scan) ws) ∙ found) is

pub wrapper_proper : (soc : SocValue) → (p : ℕ) (m : ModuleValue) → slice_get soc.modules p ≡ Some m → (scan : Bool) (ws : List Wrapper) (k : ℕ) (w : Wrapper) → Each (HasProperCells soc) (map wrapper_value ws) → IsFound m scan ws k w → IsProper m w.scan (map chain_value w.chains.items)
wrapper_proper soc p m at scan ws k w proper found = proper k (wrapper_value w) found.at p m at (sym found.module_is)

pub mode_wrapper : (plan : PlanValue) (m : ModuleValue) (scan : Bool) (ws : List Wrapper) (k : ℕ) (w : Wrapper) (r : ModeWrapper) → map wrapper_value ws ≡ plan.wrappers → IsFound m scan ws k w → IsProper m w.scan (map chain_value w.chains.items)
    → r.place ≡ k → r.si ≡ si_of (chain_cells m w.scan (map chain_value w.chains.items)) → r.so ≡ so_of (chain_cells m w.scan (map chain_value w.chains.items)) → 1 + r.si + r.so ≤ module_size m → IsModeWrapper plan m scan r
mode_wrapper plan m scan ws k w r are found proper place si so short = record {
  wrapper = wrapper_value w;
  at = ap (λ (n : ℕ). slice_get plan.wrappers n) place ∙ ap (λ (vs : List WrapperValue). slice_get vs k) (sym are) ∙ found.at;
  mode = found.scan_is;
  first = ap (λ (vs : List WrapperValue). of_first (wraps m.number scan) (λ (v : WrapperValue). v.chains) [] vs) (sym are) ∙ found.first;
  proper = subst (λ (b : Bool). IsProper m b (map chain_value w.chains.items)) found.scan_is proper;
  si = si ∙ ap (λ (b : Bool). si_of (chain_cells m b (map chain_value w.chains.items))) found.scan_is;
  so = so ∙ ap (λ (b : Bool). so_of (chain_cells m b (map chain_value w.chains.items))) found.scan_is;
  short = short;
}
