-- The pairs of a module and a mode that want a wrapper.
use Rattle.std.proofs.Common.{◌≡◌, ℕ, zero, suc, ◌+◌, ◌≤◌, Bool, true, false, Some, List, [], ◌∷◌, ◌++◌, length, map, take, leb, refl, ap, ◌∙◌, sym, subst, arith, inl, inr, true≢false, slice_get, slice_index, Contains}
use Rattle.std.specs.List.{list_any}
use Rattle.std.proofs.lemmas.Bool.{cases_Bool, cases_lt, le-leb, lt-leb}
use Rattle.std.proofs.lemmas.List.{take_more, map-append}
use Rattle.std.proofs.lemmas.Option.{slice_get_within, get_or_from_slice_get}
use Rattle.soc_model.specs.Chips.{ModuleValue, SocValue, numbers}
use Rattle.plan_model.specs.Plans.{BusValue, WrapperValue, bus_place}
use Rattle.plan_checker.specs.Marks.{IsWired}
use Rattle.plan_model.specs.Rules.{pair_of, uses_mode, mode_pair, used_pairs}
use Rattle.plan_model.proofs.Lists.{in_flat_map, from_append, any_from, from_flat_map}
use Rattle.plan_model.proofs.PlannedTests.{pair_used}
use Rattle.live_tests.specs.Index.{is_pair}
use Rattle.plan_checker.proofs.Finding.{some_same, number_at}
use Rattle.plan_checker.proofs.Listing.{is_pair_of, is_pair_itself}
use Rattle.common_lemmas.proofs.Lists.{any_at, contains_from, contains_at}

pub pair_there : (soc : SocValue) (p : ℕ) (m : ModuleValue) (number : ℕ) (scan : Bool) → slice_get soc.modules p ≡ Some m → slice_get (numbers soc) p ≡ Some number → uses_mode scan m ≡ true → Contains (used_pairs soc) (number, scan)
pair_there soc p m number scan at found used =
    let j = pair_used m scan used in
    let i = in_flat_map (λ (m : ModuleValue). mode_pair true m ++ mode_pair false m) soc.modules p j.0 m (m.number, scan) at j.1 in
    let same : m.number ≡ number = some_same (sym (number_at soc.modules p m at) ∙ found) in
    contains_from (used_pairs soc) (number, scan) i.0 (i.1 ∙ ap (λ v. Some (v, scan)) same)

mode_item : (mode : Bool) (m : ModuleValue) (j n : ℕ) (scan : Bool) → slice_get (mode_pair mode m) j ≡ Some (n, scan) → (m.number ≡ n) × (uses_mode scan m ≡ true)
mode_item mode m j n scan at = elim (cases_Bool (uses_mode mode m)) [
  | inl yes' ↦ let at' = rw yes' at at in one j at' yes'
  | inr no' ↦ let at' = rw no' at at in absurd cc
]
  where
    one : (j : ℕ) → slice_get {X = ℕ × Bool} ((m.number, mode) ∷ []) j ≡ Some (n, scan) → uses_mode mode m ≡ true → (m.number ≡ n) × (uses_mode scan m ≡ true)
    one zero e used =
        let p : (m.number, mode) ≡ (n, scan) = some_same e in
        (ap (λ (p : ℕ × Bool). p.0) p, subst (λ v. uses_mode v m ≡ true) (ap (λ (p : ℕ × Bool). p.1) p) used)
    one (suc j) e used = absurd cc

pub record UsedAt (soc : SocValue) (number : ℕ) (scan : Bool) : Type 0 where
  pub p : ℕ
  pub m : ModuleValue
  pub at : slice_get soc.modules p ≡ Some m
  pub number_is : m.number ≡ number
  pub used : uses_mode scan m ≡ true

pub used_at : (soc : SocValue) (number : ℕ) (scan : Bool) → Contains (used_pairs soc) (number, scan) → UsedAt soc number scan
used_at soc number scan c =
    let k = contains_at (used_pairs soc) (number, scan) c in
    let r = from_flat_map (λ (m : ModuleValue). mode_pair true m ++ mode_pair false m) soc.modules k.0 (number, scan) k.1 in
    let i : ((r.1).number ≡ number) × (uses_mode scan r.1 ≡ true) = elim (from_append (mode_pair true r.1) (mode_pair false r.1) r.2 (number, scan) r.4) [
      | inl a ↦ mode_item true r.1 r.2 number scan a
      | inr a ↦ mode_item false r.1 a.0 number scan a.2
    ] in
    record { p = r.0; m = r.1; at = r.3; number_is = i.0; used = i.1 }

pub paired : (m : ℕ) (scan : Bool) (ps : List (ℕ × Bool)) → list_any (is_pair m scan) ps ≡ true → Contains ps (m, scan)
paired m scan ps h =
    let r = any_at (is_pair m scan) ps h in
    let is = is_pair_of m scan r.1 r.3 in
    contains_from ps (m, scan) r.0 (r.2 ∙ ap Some (join r.1 m scan is.0 is.1))
  where
    join : (p : ℕ × Bool) (m : ℕ) (scan : Bool) → p.0 ≡ m → p.1 ≡ scan → p ≡ (m, scan)
    join p m scan a b = rw (← a, ← b) refl

pub not_paired : (m : ℕ) (scan : Bool) (ps : List (ℕ × Bool)) → list_any (is_pair m scan) ps ≡ false → Contains ps (m, scan) → ⊥
not_paired m scan ps no' c = let k = contains_at ps (m, scan) c in true≢false (sym (any_from (is_pair m scan) ps k.0 (m, scan) k.1 (is_pair_itself m scan)) ∙ no')

pub pairs_more : (ws : List WrapperValue) (i : ℕ) (w : WrapperValue) → slice_get ws i ≡ Some w → map pair_of (take (i + 1) ws) ≡ map pair_of (take i ws) ++ (w.«module», w.scan) ∷ []
pairs_more ws i w at = ap (map pair_of) (take_more ws i w (slice_get_within ws i w at) ∙ ap (λ v. take i ws ++ v ∷ []) (get_or_from_slice_get ws i w w at)) ∙ map-append pair_of (take i ws) (w ∷ [])

pub wired_if : (buses : List BusValue) (w : WrapperValue) (n width : ℕ) → n ≡ length w.chains → width ≡ slice_index (map (λ (b : BusValue). b.width) buses) (bus_place w.«module» 0 buses) → 1 ≤ n → IsWired buses w (leb n width)
wired_if buses w n width a b some = elim (cases_lt width n) [
  | inl less ↦ rw (lt-leb n width less) (λ on. omega (arith, on.1))
  | inr more ↦ rw (le-leb n width more) (omega arith, omega arith)
]
