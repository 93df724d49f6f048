-- How many controls a sound chip has at most.
use Rattle.std.proofs.Common.{◌≤◌, List, [], ◌∷◌, ◌++◌, length, map, arith, inl, inr, filter}
use Rattle.std.proofs.lemmas.Bool.{cases_Bool}
use Rattle.std.proofs.lemmas.List.{length-append, length-map}
use Rattle.soc_model.specs.Chips.{ModuleValue, SocValue, live_tests, id_of}
use Rattle.soc_model.specs.Modes.{has_tam}
use Rattle.soc_model.specs.SoundChips.{IsSoundChip}
use Rattle.soc_model.proofs.Limits.{modules-le}
use Rattle.plan_model.specs.Rules.{live_ids}
use Rattle.live_tests.proofs.HowMany.{live_tests-le}
use Rattle.controls.specs.Controls.{controls, run_of, shift_of, capture_of, tam_numbers}

filter_le : (ms : List ModuleValue) → length (filter has_tam ms) ≤ length ms
filter_le [] = omega arith
filter_le (m ∷ ms) = elim (cases_Bool (has_tam m)) [
  | inl yes' ↦ rw yes' (omega (arith, filter_le ms))
  | inr no' ↦ rw no' (omega (arith, filter_le ms))
]

tam_numbers-le : (soc : SocValue) → IsSoundChip soc → length (tam_numbers soc) ≤ 1000
tam_numbers-le soc sound =
    omega (arith, length-map (filter has_tam soc.modules) (λ (m : ModuleValue). m.number), filter_le soc.modules, modules-le soc sound.size)

pub controls-le : (soc : SocValue) → IsSoundChip soc → length (controls soc) ≤ 6096
unfolding controls
controls-le soc sound =
    let runs : length (map run_of (live_ids soc)) ≤ 4096 = omega (arith, length-map (live_ids soc) run_of, length-map (live_tests soc) id_of, live_tests-le soc sound) in
    let shifts : length (map shift_of (tam_numbers soc)) ≤ 1000 = omega (arith, length-map (tam_numbers soc) shift_of, tam_numbers-le soc sound) in
    let captures : length (map capture_of (tam_numbers soc)) ≤ 1000 = omega (arith, length-map (tam_numbers soc) capture_of, tam_numbers-le soc sound) in
    rw (length-append (map run_of (live_ids soc)) (map shift_of (tam_numbers soc) ++ map capture_of (tam_numbers soc)), length-append (map shift_of (tam_numbers soc)) (map capture_of (tam_numbers soc)))
    (omega (arith, runs, shifts, captures))
