-- No test has two profiles, so that the names of the tests that have any differ.
use Rattle.std.proofs.Common.{◌≡◌, ℕ, zero, suc, ◌+◌, ◌<◌, Some, None, List, [], ◌∷◌, length, get_or, map, drop, refl, ap, ◌∙◌, sym, arith, inl, inr, slice_get}
use Rattle.std.specs.List.{position_from}
use Rattle.std.proofs.lemmas.Bool.{cases_Bool}
use Rattle.std.proofs.lemmas.Option.{slice_get-map, slice_get-get_or}
use Rattle.soc_model.specs.declared.TestId.{TestId}
use Rattle.soc_model.specs.Chips.{same_test}
use Rattle.plan_model.specs.declared.Profile.{Profile}
use Rattle.plan_model.specs.Views.{profile_value}
use Rattle.plan_model.specs.Plans.{ProfileValue}
use Rattle.plan_model.proofs.CertificatesAreBounds.{same_test_is}
use Rattle.live_tests.specs.Names.{AllDiffer}
use Rattle.bound_certificate.specs.ProfileNames.{names_of}
use Rattle.common_lemmas.proofs.Lists.{from_map}

pub names_differ : (ps : List Profile) → ((p q : ℕ) (x y : ProfileValue) → slice_get (map profile_value ps) p ≡ Some x → slice_get (map profile_value ps) q ≡ Some y → x.test ≡ y.test → p ≡ q) → AllDiffer (names_of ps)
names_differ ps one p q id at at' =
    let a = from_map (λ (p : Profile). p.test) ps p id at in
    let b = from_map (λ (p : Profile). p.test) ps q id at' in
    one p q (profile_value a.0) (profile_value b.0) (slice_get-map profile_value ps p ∙ rw a.1 refl) (slice_get-map profile_value ps q ∙ rw b.1 refl) (a.2 ∙ sym b.2)

-- a name that stands nowhere in a list
none_from : (id : TestId) (n : ℕ) (xs : List TestId) → ((q : ℕ) → slice_get xs q ≡ Some id → ⊥) → position_from (same_test id) n xs ≡ None
none_from id n [] new = refl
none_from id n (x ∷ xs) new = elim (cases_Bool (same_test id x)) [
  | inl yes' ↦ absurd (new 0 (ap Some (sym (same_test_is id x yes'))))
  | inr no' ↦ rw no' (none_from id (n + 1) xs (λ q at. new (suc q) at))
]

at_drop : {X : Type 0} (n : ℕ) (xs : List X) (q : ℕ) → slice_get (drop n xs) q ≡ slice_get xs (n + q)
at_drop zero xs q = let same : 0 + q ≡ q = omega arith in rw same refl
at_drop (suc n) [] q = refl
at_drop (suc n) (x ∷ xs) q = let same : suc n + q ≡ suc (n + q) = omega arith in rw same (at_drop n xs q)

-- the name of a profile stands nowhere behind it
pub name_new : (ps : List Profile) (k next : ℕ) (d : Profile) → k + 1 ≡ next → k < length ps → AllDiffer (names_of ps) → position_from (same_test (get_or ps k d).test) next (drop next (names_of ps)) ≡ None
name_new ps k next d is within differ = none_from (get_or ps k d).test next (drop next (names_of ps)) (λ q at. (
    let there : slice_get (names_of ps) (next + q) ≡ Some (get_or ps k d).test = sym (at_drop next (names_of ps) q) ∙ at in
    let same : k ≡ next + q = differ k (next + q) (get_or ps k d).test named there in
    omega (arith, same, is)))
  where
    named : slice_get (names_of ps) k ≡ Some (get_or ps k d).test
    named = slice_get-map (λ (p : Profile). p.test) ps k ∙ rw (slice_get-get_or ps k d within) refl
