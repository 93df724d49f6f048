-- How many live tests a sound chip has at most.
use Rattle.std.proofs.Common.{ℕ, ◌+◌, ◌≤◌, List, [], ◌∷◌, length, arith, inl, inr}
use Rattle.std.specs.List.{flat_map, filter}
use Rattle.std.proofs.lemmas.Bool.{cases_Bool}
use Rattle.std.proofs.lemmas.List.{length-append, length-map}
use Rattle.soc_model.specs.declared.Test.{Test}
use Rattle.soc_model.specs.Chips.{ModuleValue, SocValue, LiveTest, is_live, live_of, live_from, live_tests}
use Rattle.soc_model.specs.SoundChips.{IsSoundChip}
use Rattle.soc_model.proofs.Limits.{tests-le}

filter_le : (tests : List Test) → length (filter is_live tests) ≤ length tests
filter_le [] = omega arith
filter_le (t ∷ ts) = elim (cases_Bool (is_live t)) [
  | inl yes' ↦ rw yes' (omega (arith, filter_le ts))
  | inr no' ↦ rw no' (omega (arith, filter_le ts))
]

live_le : (base : ℕ) (ms : List ModuleValue) → length (live_from base ms) ≤ length (flat_map (λ (m : ModuleValue). m.tests) ms)
unfolding live_from
live_le base [] = omega arith
live_le base (m ∷ ms) =
    let here : length (live_of base m) ≤ length m.tests = omega (arith, filter_le m.tests, length-map (filter is_live m.tests) (the_live base m)) in
    let rest : length (live_from (base + 1) ms) ≤ length (flat_map (λ (m : ModuleValue). m.tests) ms) = live_le (base + 1) ms in
    rw (length-append (live_of base m) (live_from (base + 1) ms), length-append m.tests (flat_map (λ (m : ModuleValue). m.tests) ms)) (omega (arith, here, rest))
  where
    the_live : ℕ → ModuleValue → Test → LiveTest
    the_live base m t = record { place = base; core = m; test = t }

pub live_tests-le : (soc : SocValue) → IsSoundChip soc → length (live_tests soc) ≤ 4096
live_tests-le soc sound = omega (arith, live_le 0 soc.modules, tests-le soc sound.size)
