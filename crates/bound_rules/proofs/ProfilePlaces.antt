-- The first profile of a test, by its place.
use Rattle.std.proofs.Common.{◌≡◌, ℕ, suc, ◌+◌, ◌≤◌, ◌<◌, Some, None, List, [], ◌∷◌, length, map, refl, arith, inl, inr}
use Rattle.std.specs.Prelude.{slice_get}
use Rattle.std.specs.List.{position, position_or_len}
use Rattle.std.proofs.lemmas.Bool.{cases_Bool, cases_lt, lt-ltb, le-ltb}
use Rattle.soc_model.specs.declared.TestId.{TestId}
use Rattle.soc_model.specs.Chips.{same_test}
use Rattle.plan_model.specs.declared.Profile.{Profile}
use Rattle.plan_model.specs.Views.{profile_value}
use Rattle.plan_model.specs.Plans.{ProfileValue, of_first}

-- what the first profile of a test says
said_from : {Y : Type 0} (id : TestId) (f : ProfileValue → Y) (d : Y) (ps : List Profile) (p : Profile) → slice_get ps (position_or_len (λ (p : Profile). same_test p.test id) ps) ≡ Some p →
    of_first (λ (p : ProfileValue). same_test p.test id) f d (map profile_value ps) ≡ f (profile_value p)
said_from id f d [] p at = absurd cc
said_from id f d (q ∷ ps) p at = elim (cases_Bool (same_test q.test id)) [
  | inl yes' ↦
      let at' = rw yes' at at in
      let same : q ≡ p = cc in
      rw (yes', same) refl
  | inr no' ↦
      let e : 1 + position_or_len (λ (p : Profile). same_test p.test id) ps ≡ suc (position_or_len (λ (p : Profile). same_test p.test id) ps) = omega arith in
      let at' = rw (no', e) at at in
      rw no' (said_from id f d ps p at')
]

said_none : {Y : Type 0} (id : TestId) (f : ProfileValue → Y) (d : Y) (ps : List Profile) → length ps ≤ position_or_len (λ (p : Profile). same_test p.test id) ps →
    of_first (λ (p : ProfileValue). same_test p.test id) f d (map profile_value ps) ≡ d
said_none id f d [] past = refl
said_none id f d (q ∷ ps) past = elim (cases_Bool (same_test q.test id)) [
  | inl yes' ↦ let past' = rw yes' at past in absurd (omega arith)
  | inr no' ↦
      let e : 1 + position_or_len (λ (p : Profile). same_test p.test id) ps ≡ suc (position_or_len (λ (p : Profile). same_test p.test id) ps) = omega arith in
      let past' = rw (no', e) at past in
      rw no' (said_none id f d ps (omega arith))
]

-- where the place is found, it is that of an item, and this one speaks for the test
pub place_within : (id : TestId) (ps : List Profile) (place : ℕ) → Some place ≡ position (λ (p : Profile). same_test p.test id) ps → (place < length ps) × (place ≡ position_or_len (λ (p : Profile). same_test p.test id) ps)
place_within id ps place is = elim (cases_lt (position_or_len (λ (p : Profile). same_test p.test id) ps) (length ps)) [
  | inl less ↦
      let is' = rw (lt-ltb (position_or_len (λ (p : Profile). same_test p.test id) ps) (length ps) less) at is in
      let same : place ≡ position_or_len (λ (p : Profile). same_test p.test id) ps = cc in
      (omega arith, same)
  | inr past ↦ let is' = rw (le-ltb (position_or_len (λ (p : Profile). same_test p.test id) ps) (length ps) past) at is in absurd cc
]

pub said_at : {Y : Type 0} (id : TestId) (f : ProfileValue → Y) (d : Y) (ps : List Profile) (place : ℕ) (p : Profile) → Some place ≡ position (λ (p : Profile). same_test p.test id) ps → slice_get ps place ≡ Some p →
    of_first (λ (p : ProfileValue). same_test p.test id) f d (map profile_value ps) ≡ f (profile_value p)
said_at id f d ps place p is at =
    let within = place_within id ps place is in
    said_from id f d ps p (rw within.1 at at)

pub said_by_none : {Y : Type 0} (id : TestId) (f : ProfileValue → Y) (d : Y) (ps : List Profile) → None ≡ position (λ (p : Profile). same_test p.test id) ps →
    of_first (λ (p : ProfileValue). same_test p.test id) f d (map profile_value ps) ≡ d
said_by_none id f d ps is = elim (cases_lt (position_or_len (λ (p : Profile). same_test p.test id) ps) (length ps)) [
  | inl less ↦ let is' = rw (lt-ltb (position_or_len (λ (p : Profile). same_test p.test id) ps) (length ps) less) at is in absurd cc
  | inr past ↦ said_none id f d ps past
]
