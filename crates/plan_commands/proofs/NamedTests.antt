-- The test that a name is of.
use Rattle.std.proofs.Common.{◌≡◌, ◌∙◌, ℕ, ◌<◌, Bool, true, Option, None, Some, length, get_or, position, nat_eq, option_map, refl, sym, ap, slice_get, if◌then◌else◌}
use Rattle.std.proofs.lemmas.List.Quantifiers.{position-Some}
use Rattle.std.proofs.lemmas.Option.{slice_get_read, same_Some}
use Rattle.soc_model.specs.declared.TestId.{TestId}
use Rattle.soc_model.specs.declared.Test.{Test}
use Rattle.soc_model.specs.Chips.{SocValue, ModuleValue}
use Rattle.soc_model.specs.Lookups.{test_place_in, test_places, tests_of, with_test, module_place}
use Rattle.soc_model.specs.Modes.{is_tam}
use Rattle.plan_commands.specs.ShiftPrograms.{named_test, tam_only, test_at, test_in}

-- a place that is found is its own, and where it was found
same_places : (p place at : ℕ) (r : Option ℕ) → option_map {U = ℕ × ℕ} (λ (n : ℕ). (p, n)) r ≡ Some (place, at) → (p ≡ place) × (r ≡ Some at)
same_places p place at None is = absurd cc
same_places p place at (Some n) is =
    let same : (p, n) ≡ (place, at) = same_Some (p, n) (place, at) is in
    (ap (λ (x : ℕ × ℕ). x.0) same, ap (λ (x : ℕ × ℕ). Some x.1) same)

-- a test that is found is one of its module's
within : (chip : SocValue) (id : TestId) (o : Option ℕ) (place at : ℕ) (m : ModuleValue) (t : Test) → with_test chip id o ≡ Some (place, at) → slice_get chip.modules place ≡ Some m → at < length m.tests
within chip id None place at m t found there = absurd cc
within chip id (Some p) place at m t found there =
    let same = same_places p place at (test_place_in chip id.test p) found in
    let in_module : position (λ (t : Test). nat_eq id.test t.number) m.tests ≡ Some at =
    ap (λ (o : Option ModuleValue). position (λ (t : Test). nat_eq id.test t.number) (tests_of o)) (sym (ap (slice_get chip.modules) same.0 ∙ there)) ∙ same.1 in
    (position-Some (λ (t : Test). nat_eq id.test t.number) m.tests at t in_module).0

abbrev over_wires : ModuleValue → Test → Bool → Option (ModuleValue × Test)
over_wires m t tam = if tam then Some (m, t) else None

-- The test at the places of a name is the one of that name, where it goes over the wires.
pub found_over_wires : (chip : SocValue) (id : TestId) (place at : ℕ) (m : ModuleValue) (t : Test) → test_places chip id ≡ Some (place, at) → slice_get chip.modules place ≡ Some m → t ≡ get_or m.tests at t → is_tam t ≡ true →
    (slice_get m.tests at ≡ Some t) × (named_test chip id ≡ Some (m, t))
found_over_wires chip id place at m t found there read wires =
    let test_there : slice_get m.tests at ≡ Some t = slice_get_read m.tests (length m.tests) at t refl (within chip id (module_place chip id.«module») place at m t found there) read in
    let named : named_test chip id ≡ Some (m, t) =
    ap (test_at chip) found ∙ ap (λ (o : Option ModuleValue). test_in o at) there ∙ ap (tam_only m) test_there ∙ ap (over_wires m t) wires in
    (test_there, named)
