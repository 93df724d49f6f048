-- How many tests of a chip are live, module by module.
use Rattle.std.proofs.Common.{◌≡◌, ◌∙◌, ℕ, ◌+◌, List, [], ◌∷◌, map, length, filter, refl, ap, sym, sum_by}
use Rattle.std.proofs.lemmas.List.{length-append, length-map}
use Rattle.std.proofs.lemmas.List.Sums.{sum_by-cons}
use Rattle.soc_model.specs.declared.Module.{Module}
use Rattle.soc_model.specs.declared.Test.{Test}
use Rattle.soc_model.specs.Chips.{ModuleValue, module_value, is_live, live_of, live_from}

abbrev pub live_in : ModuleValue → ℕ
live_in m = length (filter is_live m.tests)

pub live_counted : (place : ℕ) (ms : List ModuleValue) → length (live_from place ms) ≡ sum_by live_in ms
unfolding live_from
live_counted place [] = refl
live_counted place (m ∷ ms) =
    length-append (live_of place m) (live_from (place + 1) ms)
    ∙ ap (λ n. n + length (live_from (place + 1) ms)) (length-map (filter is_live m.tests) (λ (t : Test). record { place = place; core = m; test = t }))
    ∙ ap (λ n. live_in m + n) (live_counted (place + 1) ms)
    ∙ sym (sum_by-cons live_in m ms)

pub live_next : (it rest : List Module) (m : Module) → it ≡ m ∷ rest → sum_by live_in (map module_value it) ≡ live_in (module_value m) + sum_by live_in (map module_value rest)
live_next it rest m next = rw next (sum_by-cons live_in (module_value m) (map module_value rest))
