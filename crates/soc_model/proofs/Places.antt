-- Modules and tests by their numbers and places.
use Rattle.std.proofs.Common.{◌≡◌, ℕ, ◌<◌, ◌≢◌, Bool, true, false, cond, nat_lt, List, length, get_or, nat_eq, position, option_map, Option, None, Some, slice_get, refl, sym, ap, ◌∙◌, arith}
use Rattle.std.proofs.lemmas.Bool.Decides.{nat_tests}
use Rattle.std.specs.List.{position_or_len}
use Rattle.std.proofs.lemmas.List.Sums.{fails_before_first}
use Rattle.std.proofs.lemmas.List.Quantifiers.{position-Some}
use Rattle.std.proofs.lemmas.Option.{slice_get-map, slice_get-get_or, slice_get_within, get_or_from_slice_get, same_Some}
use Rattle.soc_model.specs.declared.Test.{Test}
use Rattle.soc_model.specs.declared.TestId.{TestId}
use Rattle.soc_model.specs.Chips.{ModuleValue, SocValue, numbers}
use Rattle.soc_model.specs.Lookups.{module_place, test_places, tests_of, with_test}
use Rattle.soc_model.specs.SoundChips.{AllDiffer, IsSoundChip}
use Rattle.common_lemmas.proofs.Options.{cond_none}

-- a test's places, where its module is at a place
pub test_places-at : (soc : SocValue) (id : TestId) (p : ℕ) (m : ModuleValue) → module_place soc id.module ≡ Some p → slice_get soc.modules p ≡ Some m → test_places soc id ≡ option_map (λ (n : ℕ). (p, n)) (position (λ (t : Test). nat_eq id.test t.number) m.tests)
test_places-at soc id p m found at =
    ap (with_test soc id) found ∙ ap (λ (o : Option ModuleValue). option_map (λ (n : ℕ). (p, n)) (position (λ (t : Test). nat_eq id.test t.number) (tests_of o))) at

-- ---- numbers in a list

-- a number stands where it is found
pub slice_get-from_position : (ns : List ℕ) (n p : ℕ) → position (nat_eq n) ns ≡ Some p → slice_get ns p ≡ Some n
slice_get-from_position ns n p e =
    let at = position-Some (nat_eq n) ns p 0 e in
    let same : get_or ns p 0 ≡ n = grind (arith, nat_tests) in
    slice_get-get_or ns p 0 at.0 ∙ ap Some same

-- a number that stands somewhere is found
position-none : (ns : List ℕ) (n p : ℕ) → slice_get ns p ≡ Some n → position (nat_eq n) ns ≡ None → ⊥
position-none ns n p at none =
    let within = slice_get_within ns p n at in
    let past = cond_none (nat_lt (position_or_len (nat_eq n) ns) (length ns)) (position_or_len (nat_eq n) ns) none in
    let before : p < position_or_len (nat_eq n) ns = grind (arith, nat_tests) in
    let fails = fails_before_first (nat_eq n) ns p 0 before in
    let same = get_or_from_slice_get ns p n 0 at in
    grind (arith, nat_tests)

-- in a list of different numbers each is found where it stands
pub position-from_slice_get : (ns : List ℕ) (n p : ℕ) → AllDiffer ns → slice_get ns p ≡ Some n → position (nat_eq n) ns ≡ Some p
position-from_slice_get ns n p differ at = by (position (nat_eq n) ns) refl
  where
    by : (o : Option ℕ) → position (nat_eq n) ns ≡ o → position (nat_eq n) ns ≡ Some p
    by None e = absurd (position-none ns n p at e)
    by (Some q) e = e ∙ ap Some (differ q p n (slice_get-from_position ns n q e) at)

-- ---- modules

-- each module stands under its own number, and no number stands at two places
pub record IsKeyed (soc : SocValue) : Type 0 where
  pub keyed : soc.keys ≡ numbers soc
  pub differ : AllDiffer (numbers soc)

pub IsKeyed-from_sound : {soc : SocValue} → IsSoundChip soc → IsKeyed soc
IsKeyed-from_sound sound = record { keyed = sound.keyed; differ = sound.modules_differ }

number-at : (soc : SocValue) (p : ℕ) (m : ModuleValue) → slice_get soc.modules p ≡ Some m → slice_get (numbers soc) p ≡ Some m.number
number-at soc p m at = slice_get-map (λ (m : ModuleValue). m.number) soc.modules p ∙ ap (option_map (λ (m : ModuleValue). m.number)) at

module-from : (o : Option ModuleValue) (n : ℕ) → option_map (λ (m : ModuleValue). m.number) o ≡ Some n → (m : ModuleValue) × (o ≡ Some m) × (m.number ≡ n)
module-from None n e = cc
module-from (Some m) n e = (m, refl, same_Some m.number n e)

-- the place that a number finds is that of a module of that number
pub module-from_place : {soc : SocValue} → IsKeyed soc → (number p : ℕ) → module_place soc number ≡ Some p → (m : ModuleValue) × (slice_get soc.modules p ≡ Some m) × (m.number ≡ number)
module-from_place {soc} keyed number p found =
    module-from (slice_get soc.modules p) number (sym (slice_get-map (λ (m : ModuleValue). m.number) soc.modules p) ∙ ap (λ ns. slice_get ns p) (sym keyed.keyed) ∙ slice_get-from_position soc.keys number p found)

-- a module is found by its number
pub place-from_module : {soc : SocValue} → IsKeyed soc → (p : ℕ) (m : ModuleValue) → slice_get soc.modules p ≡ Some m → module_place soc m.number ≡ Some p
place-from_module {soc} keyed p m at =
    ap (position (nat_eq m.number)) keyed.keyed ∙ position-from_slice_get (numbers soc) m.number p keyed.differ (number-at soc p m at)

-- where a number finds no place, no module has it
pub no_module-from_place : {soc : SocValue} → IsKeyed soc → (number : ℕ) → module_place soc number ≡ None → (p : ℕ) (m : ModuleValue) → slice_get soc.modules p ≡ Some m → m.number ≢ number
no_module-from_place {soc} keyed number none p m at same =
    position-none (numbers soc) number p (number-at soc p m at ∙ ap Some same) (ap (position (nat_eq number)) (sym keyed.keyed) ∙ none)

-- two modules of one number are one
pub module-unique : {soc : SocValue} → IsKeyed soc → (p q : ℕ) (m k : ModuleValue) → slice_get soc.modules p ≡ Some m → slice_get soc.modules q ≡ Some k → m.number ≡ k.number → p ≡ q
module-unique {soc} keyed p q m k at there same = keyed.differ p q k.number (number-at soc p m at ∙ ap Some same) (number-at soc q k there)
