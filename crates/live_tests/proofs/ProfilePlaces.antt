-- Profiles are noted by the names of their tests, from the last one back to the first.
use Rattle.std.proofs.Common.{◌≡◌, ℕ, zero, suc, ◌+◌, ◌<◌, not, cond, Option, Some, List, [], ◌∷◌, length, get_or, map, drop, position, refl, sym, ap, ◌∙◌, arith}
use Rattle.std.specs.List.{position_from, prefix_len}
use Rattle.std.proofs.lemmas.List.{length-map}
use Rattle.soc_model.specs.declared.TestId.{TestId}
use Rattle.soc_model.specs.Chips.{same_test}
use Rattle.plan_model.specs.declared.Profile.{Profile}
use Rattle.live_tests.proofs.Indexing.{places_more, places_all, same_test_turned}

-- the names of their tests
abbrev pub names_of : List Profile → List TestId
names_of profiles = map (λ (p : Profile). p.test) profiles

name_at : (profiles : List Profile) (k : ℕ) (d : Profile) → get_or (names_of profiles) k d.test ≡ (get_or profiles k d).test
name_at [] k d = refl
name_at (p ∷ profiles) zero d = refl
name_at (p ∷ profiles) (suc k) d = name_at profiles k d

-- one profile more, in front of those that are noted
pub profiles_more : (profiles : List Profile) (k place : ℕ) (d : Profile) (old new : TestId → Option ℕ) → k + 1 ≡ place → k < length profiles → ((id : TestId) → old id ≡ position_from (same_test id) place (drop place (names_of profiles)))
    → ((id : TestId) → new id ≡ cond (same_test (get_or profiles k d).test id) (Some k) (old id)) → (id : TestId) → new id ≡ position_from (same_test id) k (drop k (names_of profiles))
profiles_more profiles k place d old new is within before added =
    places_more (names_of profiles) k place d.test old new is (omega (arith, within, length-map profiles (λ (p : Profile). p.test))) before
    (λ id. added id ∙ ap (λ (t : TestId). cond (same_test t id) (Some k) (old id)) (sym (name_at profiles k d)))

prefix_names : (id : TestId) (profiles : List Profile) → prefix_len (λ t. not (same_test id t)) (names_of profiles) ≡ prefix_len (λ (p : Profile). not (same_test p.test id)) profiles
prefix_names id [] = refl
prefix_names id (p ∷ profiles) =
    ap (λ b. cond (not b) (1 + prefix_len (λ t. not (same_test id t)) (names_of profiles)) 0) (same_test_turned id p.test)
    ∙ ap (λ n. cond (not (same_test p.test id)) (1 + n) 0) (prefix_names id profiles)

-- when all are noted
pub profiles_all : (profiles : List Profile) (id : TestId) → position_from (same_test id) 0 (names_of profiles) ≡ position (λ (p : Profile). same_test p.test id) profiles
profiles_all profiles id =
    places_all (names_of profiles) id ∙ rw (prefix_names id profiles, length-map profiles (λ (p : Profile). p.test)) refl
