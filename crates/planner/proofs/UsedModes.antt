-- The modes that are used, and their wrappers, one after another.
use Rattle.std.proofs.Common.{◌≡◌, ℕ, zero, suc, ◌+◌, ◌≤◌, ◌<◌, Bool, true, false, Some, List, [], ◌∷◌, ◌++◌, length, get_or, map, take, refl, ap, ◌∙◌, sym, subst, arith, inl, inr, append_assoc, append-nil, slice_get, IfSome, ◌&&◌, All, flat_map}
use Rattle.std.proofs.lemmas.Bool.{cases_lt, and_parts}
use Rattle.std.proofs.lemmas.List.{map-append, take_more, take_all}
use Rattle.std.proofs.lemmas.List.Elements.{All-nil, All-push}
use Rattle.std.proofs.lemmas.Grind.{flat_map-append}
use Rattle.std.proofs.lemmas.Option.{get_or_from_slice_get, slice_get_within}
use Rattle.soc_model.specs.declared.Test.{Test}
use Rattle.soc_model.specs.Chips.{ModuleValue, SocValue, is_live}
use Rattle.plan_model.specs.Plans.{BusValue, WrapperValue}
use Rattle.soc_model.specs.Modes.{same_mode, uses_mode, has_tam}
use Rattle.plan_model.specs.declared.Wrapper.{Wrapper}
use Rattle.plan_model.specs.Views.{wrapper_value}
use Rattle.plan_model.specs.Rules.{pair_of, used_pairs, mode_pair}
use Rattle.plan_model.proofs.Lists.{any_from}
use Rattle.width_table.specs.Tables.{TableValue}
use Rattle.wrapper_design.specs.Design.{mode_of, design}
use Rattle.width_table.specs.Times.{mode_time, IsChosen}
use Rattle.width_table.proofs.LeastWidths.{chosen_first, chosen_new, chosen_old}
use Rattle.planner.specs.declared.wrappers.UsedMode.{UsedMode}
use Rattle.planner.specs.Wrapping.{bus_width, HaveWidths, IsWrapperOnBus, IsUsedMode, AreUsedModes, AreTableWrappers, mode_of_module}
use Rattle.planner.proofs.BusRules.{number_of}
use Rattle.common_lemmas.proofs.Lists.{any_at}

abbrev pub pairs_in : ModuleValue → List (ℕ × Bool)
pairs_in m = mode_pair true m ++ mode_pair false m

pub module_there : (modules : List ModuleValue) (place : ℕ) → place < length modules → (core : ModuleValue) × (slice_get modules place ≡ Some core)
module_there [] place h = absurd (omega arith)
module_there (m ∷ modules) zero h = (m, refl)
module_there (m ∷ modules) (suc place) h = module_there modules place (omega arith)

-- the pairs of one module more
pub pairs_next : (modules : List ModuleValue) (place : ℕ) (core : ModuleValue) → slice_get modules place ≡ Some core → flat_map pairs_in (take (place + 1) modules) ≡ (flat_map pairs_in (take place modules) ++ mode_pair true core) ++ mode_pair false core
pairs_next modules place core at =
    let more : take (place + 1) modules ≡ take place modules ++ core ∷ [] = take_more modules place core (slice_get_within modules place core at) ∙ rw (get_or_from_slice_get modules place core core at) refl in
    rw (more, flat_map-append pairs_in (take place modules) (core ∷ []), append-nil (pairs_in core)) (sym (append_assoc (flat_map pairs_in (take place modules)) (mode_pair true core) (mode_pair false core)))

-- some width is chosen
pub some_chosen : (f : ℕ → ℕ) (w : ℕ) → 1 ≤ w → (v : ℕ) × IsChosen f w v
some_chosen f zero some = absurd (omega arith)
some_chosen f (suc zero) some = (1, chosen_first f)
some_chosen f (suc (suc n)) some =
    let r = some_chosen f (suc n) (omega arith) in
    elim (cases_lt (f (suc (suc n))) (f r.0)) [
      | inl less ↦ (suc (suc n), chosen_new f (suc n) r.0 (suc (suc n)) (omega arith) r.1 less)
      | inr not_less ↦ (r.0, chosen_old f (suc n) r.0 (suc (suc n)) (omega arith) r.1 not_less)
    ]

abbrev pub table_design : ModuleValue → Bool → ℕ → WrapperValue
table_design m scan v = record { «module» = m.number; scan = scan; chains = design (mode_of m scan) v }

uses_has_tam : (scan : Bool) (m : ModuleValue) → uses_mode scan m ≡ true → has_tam m ≡ true
uses_has_tam scan m used =
    let t = any_at (λ (t : Test). is_live t && (t.tam && same_mode scan t.scan)) m.tests used in
    let live = and_parts (is_live t.1) ((t.1).tam && same_mode scan (t.1).scan) t.3 in
    let tam = and_parts (t.1).tam (same_mode scan (t.1).scan) live.1 in
    any_from (λ (t : Test). is_live t && t.tam) m.tests t.0 t.1 t.2 (rw (live.0, tam.0) refl)

pub record IsWithin (table : TableValue) (u : UsedMode) : Type 0 where
  pub place : u.place < length table.soc.modules
  pub some : 1 ≤ u.width
  pub within : u.width ≤ table.wires

-- these wrappers are made, of these pairs
pub record AreMade (soc : SocValue) (buses : List BusValue) (pairs : List (ℕ × Bool)) (wrappers : List WrapperValue) : Type 0 where
  pub pairs_are : map pair_of wrappers ≡ pairs
  pub on_buses : All (IsWrapperOnBus soc buses) wrappers

module _ (soc : SocValue) (buses : List BusValue) where
  -- a mode that is used
  pub take_mode : (u : UsedMode) (m core : ModuleValue) (pairs : List (ℕ × Bool)) (old new : List UsedMode) → slice_get soc.modules u.place ≡ Some m → slice_get soc.modules u.place ≡ Some core →
      uses_mode u.scan m ≡ true → u.width ≡ bus_width buses m.number → new ≡ old ++ u ∷ [] → AreUsedModes soc buses pairs old → AreUsedModes soc buses (pairs ++ mode_pair u.scan core) new
  take_mode u m core pairs old new at at' used width more are =
      let same : m ≡ core = cc (at, at') in
      let used' = rw same at used in
      let pair : mode_pair u.scan core ≡ mode_of_module soc u ∷ [] = rw (used', number_of soc u.place core at') refl in
      record {
        pairs_are = rw (more, map-append (mode_of_module soc) old (u ∷ []), are.pairs_are, pair) refl;
        used = rw more (All-push (IsUsedMode soc buses) old u are.used (record { core = m; there = at; used = used; width = width }));
      }

  pub no_modes : AreUsedModes soc buses [] []
  no_modes = record { pairs_are = refl; used = All-nil (IsUsedMode soc buses) }

  -- those of all modules
  pub all_pairs : (place : ℕ) (modes : List UsedMode) → length soc.modules ≤ place → AreUsedModes soc buses (flat_map pairs_in (take place soc.modules)) modes → AreUsedModes soc buses (used_pairs soc) modes
  all_pairs place modes past are = rw (take_all place soc.modules past) at are

  -- the wrapper that the table answers for a mode that is used
  wrapper_on_bus : (u : UsedMode) (w : WrapperValue) → IsUsedMode soc buses u → 1 ≤ u.width →
      IfSome (slice_get soc.modules u.place) (λ m. (v : ℕ) → IsChosen (mode_time m u.scan) u.width v → w ≡ table_design m u.scan v) → IsWrapperOnBus soc buses w × (pair_of w ≡ mode_of_module soc u)
  wrapper_on_bus u w used some answer =
      let is : (v : ℕ) → IsChosen (mode_time used.core u.scan) u.width v → w ≡ table_design used.core u.scan v = rw used.there at answer in
      let v = some_chosen (mode_time used.core u.scan) u.width some in
      let here : w ≡ table_design used.core u.scan v.0 = is v.0 v.1 in
      let on : IsWrapperOnBus soc buses (table_design used.core u.scan v.0) = record {
        place = u.place;
        core = used.core;
        there = used.there;
        wrapper = record { of = refl; chosen = v.0; is_chosen = subst (λ (n : ℕ). IsChosen (mode_time used.core u.scan) n v.0) used.width v.1; designed = refl };
      } in
      (rw here on, rw (here, number_of soc u.place used.core used.there) refl)

  used_within : (table : TableValue) (u : UsedMode) → table.soc ≡ soc → HaveWidths table buses → IsUsedMode soc buses u → IsWithin table u
  used_within table u same wide used =
      let there : slice_get table.soc.modules u.place ≡ Some used.core = rw same used.there in
      let width = wide u.place used.core there (uses_has_tam u.scan used.core used.used) in
      record { place = slice_get_within table.soc.modules u.place used.core there; some = omega (arith, used.width, width.0); within = omega (arith, used.width, width.1) }

  -- ---- wrappers, one after another

  pub none_made : (wrappers : List Wrapper) → wrappers ≡ [] → AreMade soc buses [] (map wrapper_value wrappers)
  none_made wrappers none = rw none (record { pairs_are = refl; on_buses = All-nil (IsWrapperOnBus soc buses) })

  pub made_next : (modes : List UsedMode) (i : ℕ) (d : UsedMode) (old new : List Wrapper) (w : Wrapper) → i < length modes → new ≡ old ++ w ∷ [] → AreMade soc buses (map (mode_of_module soc) (take i modes)) (map wrapper_value old) →
      IsWrapperOnBus soc buses (wrapper_value w) × (pair_of (wrapper_value w) ≡ mode_of_module soc (get_or modes i d)) → AreMade soc buses (map (mode_of_module soc) (take (i + 1) modes)) (map wrapper_value new)
  made_next modes i d old new w h more made here =
      let values : map wrapper_value new ≡ map wrapper_value old ++ wrapper_value w ∷ [] = rw (more, map-append wrapper_value old (w ∷ [])) refl in
      let right : map (mode_of_module soc) (take (i + 1) modes) ≡ map (mode_of_module soc) (take i modes) ++ mode_of_module soc (get_or modes i d) ∷ [] = rw (take_more modes i d h, map-append (mode_of_module soc) (take i modes) (get_or modes i d ∷ [])) refl in
      record {
        pairs_are = ap (map pair_of) values ∙ map-append pair_of (map wrapper_value old) (wrapper_value w ∷ []) ∙ rw (made.pairs_are, here.1, right) refl;
        on_buses = rw values (All-push (IsWrapperOnBus soc buses) (map wrapper_value old) (wrapper_value w) made.on_buses here.0);
      }

  pub all_made : (modes : List UsedMode) (i : ℕ) (wrappers : List WrapperValue) → length modes ≤ i → AreUsedModes soc buses (used_pairs soc) modes → AreMade soc buses (map (mode_of_module soc) (take i modes)) wrappers → AreTableWrappers soc buses wrappers
  all_made modes i wrappers past used made = record { pairs = rw (made.pairs_are, take_all i modes past) used.pairs_are; on_buses = made.on_buses }

-- ---- a mode that is read from the list

module _ (table : TableValue) (soc : SocValue) (buses : List BusValue) (modes read : List UsedMode) (i : ℕ) (d : UsedMode) (same : table.soc ≡ soc) (wide : HaveWidths table buses) (used : All (IsUsedMode soc buses) modes) (is : read ≡ modes) (inside : i < length read) where
  mode_used : IsUsedMode soc buses (get_or read i d)
  mode_used = let all = rw (← is) at used in all i d inside

  pub mode_within : IsWithin table (get_or read i d)
  mode_within = used_within soc buses table (get_or read i d) same wide mode_used

  pub wrapper_made : (w : WrapperValue) → IfSome (slice_get table.soc.modules (get_or read i d).place) (λ m. (v : ℕ) → IsChosen (mode_time m (get_or read i d).scan) (get_or read i d).width v → w ≡ table_design m (get_or read i d).scan v) →
      IsWrapperOnBus soc buses w × (pair_of w ≡ mode_of_module soc (get_or read i d))
  wrapper_made w answer = wrapper_on_bus soc buses (get_or read i d) w mode_used mode_within.some (rw same at answer)
