-- The controls of a chip, module by module; and that a row has a digit for each control.
use Rattle.std.proofs.Common.{◌≡◌, ℕ, ◌+◌, List, [], ◌∷◌, ◌++◌, length, map, refl, sym, ap, ◌∙◌, filter, flat_map}
use Rattle.std.proofs.lemmas.List.{length-map, map-append}
use Rattle.soc_model.specs.declared.Test.{Test}
use Rattle.soc_model.specs.Chips.{ModuleValue, SocValue, LiveTest, is_live, live_of, live_from, id_of}
use Rattle.plan_model.specs.Plans.{PlanValue, planned}
use Rattle.plan_model.specs.Rules.{live_ids}
use Rattle.controls.specs.declared.Control.{Control}
use Rattle.controls.specs.Controls.{run_of, runs_in, controls, control_row, control_at, bit_digit}
use Rattle.common_lemmas.proofs.Lists.{map_twice}

runs_from : (base : ℕ) (ms : List ModuleValue) → flat_map runs_in ms ≡ map run_of (map id_of (live_from base ms))
unfolding live_from
runs_from base [] = refl
runs_from base (m ∷ ms) =
    let here : map run_of (map id_of (live_of base m)) ≡ runs_in m =
    map_twice run_of id_of (live_of base m) ∙ map_twice (λ (l : LiveTest). run_of (id_of l)) (λ (t : Test). record { place = base; core = m; test = t }) (filter is_live m.tests) in
    ap (λ (rest : List Control). runs_in m ++ rest) (runs_from (base + 1) ms)
    ∙ ap (λ (first : List Control). first ++ map run_of (map id_of (live_from (base + 1) ms))) (sym here)
    ∙ sym (map-append run_of (map id_of (live_of base m)) (map id_of (live_from (base + 1) ms)))
    ∙ ap (map run_of) (sym (map-append id_of (live_of base m) (live_from (base + 1) ms)))

-- the controls of the live tests of all modules
pub runs_are : (soc : SocValue) → flat_map runs_in soc.modules ≡ map run_of (live_ids soc)
runs_are soc = runs_from 0 soc.modules

-- a row has a digit for each control
pub control_row-length : (soc : SocValue) (plan : PlanValue) (c : ℕ) → length (control_row soc plan c) ≡ length (controls soc)
unfolding control_row
control_row-length soc plan c = length-map (controls soc) (λ (x : Control). bit_digit (control_at (planned soc plan) c x))
