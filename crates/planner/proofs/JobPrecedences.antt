-- The precedences of the job: those of live tests.
use Rattle.std.proofs.Common.{◌≡◌, ℕ, zero, suc, ◌<◌, Some, None, Option, List, [], ◌∷◌, length, get_or, position, refl, sym, ◌∙◌, ap, arith, slice_get, slice_index_or, All, Contains}
use Rattle.std.proofs.lemmas.List.{length-map}
use Rattle.std.proofs.lemmas.List.Quantifiers.{position-Some}
use Rattle.std.proofs.lemmas.Option.{slice_get-get_or, slice_get_within, get_or_from_slice_get}
use Rattle.soc_model.specs.declared.TestId.{TestId}
use Rattle.soc_model.specs.Chips.{SocValue, live_tests, id_of, same_test}
use Rattle.plan_model.specs.Plans.{PlanValue, LimitsValue}
use Rattle.plan_model.specs.Rules.{live_ids}
use Rattle.plan_model.proofs.Lists.{from_flat_map, in_flat_map, at_contains}
use Rattle.plan_model.proofs.CertificatesAreBounds.{same_test_is, is_same_test}
use Rattle.plan_model.proofs.Finding.{none_passes}
use Rattle.resource_table.specs.Jobs.{Precedes}
use Rattle.live_tests.specs.Names.{AllDiffer, both_places, places_of}
use Rattle.planner.specs.Jobs.{job_of}
use Rattle.common_lemmas.proofs.Lists.{all_from, contains_at}

pub no_id : TestId
no_id = record { «module» = 0; test = 0 }

-- a place that is found is that of the test
found_at : (ids : List TestId) (id : TestId) (k : ℕ) → position (same_test id) ids ≡ Some k → slice_get ids k ≡ Some id
found_at ids id k e =
    let at = position-Some (same_test id) ids k no_id e in
    slice_get-get_or ids k no_id at.0 ∙ ap Some (sym (same_test_is id (get_or ids k no_id) at.1))

-- and a test that stands there is found there
place_at : (ids : List TestId) (id : TestId) (k : ℕ) → AllDiffer ids → slice_get ids k ≡ Some id → position (same_test id) ids ≡ Some k
place_at ids id k differ at = by (position (same_test id) ids) refl
  where
    by : (r : Option ℕ) → position (same_test id) ids ≡ r → r ≡ Some k
    by None e = let fails = none_passes (same_test id) ids e k id at in let passes = is_same_test id in cc
    by (Some n) e = ap Some (differ n k id (found_at ids id n e) at)

-- a pair of places comes from both
both_from : (a b : Option ℕ) (k i j : ℕ) → slice_get (both_places a b) k ≡ Some (i, j) → (a ≡ Some i) × (b ≡ Some j)
both_from None b k i j e = cc
both_from (Some x) None k i j e = cc
both_from (Some x) (Some y) zero i j e = let pair : (let p : ℕ × ℕ = (x, y) in p) ≡ (i, j) = cc in (ap (λ (p : ℕ × ℕ). Some p.0) pair, ap (λ (p : ℕ × ℕ). Some p.1) pair)
both_from (Some x) (Some y) (suc k) i j e = cc

-- the precedence of the limits that one of the job is
record IsOfLimits (soc : SocValue) (limits : LimitsValue) (i j : ℕ) : Type 0 where
  a : TestId
  b : TestId
  there : Contains limits.before (a, b)
  first : slice_get (live_ids soc) i ≡ Some a
  second : slice_get (live_ids soc) j ≡ Some b

module _ (soc : SocValue) (limits : LimitsValue) (plan : PlanValue) where
  from_job : (i j : ℕ) → Precedes (job_of soc limits plan) i j → IsOfLimits soc limits i j
  from_job i j before =
      let at = contains_at (job_of soc limits plan).before (i, j) before in
      let f = from_flat_map (places_of (live_ids soc)) limits.before at.0 (i, j) at.1 in
      let both = both_from (position (same_test (f.1).0) (live_ids soc)) (position (same_test (f.1).1) (live_ids soc)) f.2 i j f.4 in
      record { a = (f.1).0; b = (f.1).1; there = at_contains limits.before f.0 f.1 f.3; first = found_at (live_ids soc) (f.1).0 i both.0; second = found_at (live_ids soc) (f.1).1 j both.1 }

  pub to_job : AllDiffer (live_ids soc) → (n i j : ℕ) (a b : TestId) → slice_get limits.before n ≡ Some (a, b) → slice_get (live_ids soc) i ≡ Some a → slice_get (live_ids soc) j ≡ Some b → Precedes (job_of soc limits plan) i j
  to_job differ n i j a b there first second =
      let pair : places_of (live_ids soc) (a, b) ≡ (i, j) ∷ [] = rw (place_at (live_ids soc) a i differ first, place_at (live_ids soc) b j differ second) refl in
      let r = in_flat_map (places_of (live_ids soc)) limits.before n 0 (a, b) (i, j) there (rw pair refl) in
      at_contains (job_of soc limits plan).before r.0 (i, j) r.1

  -- ---- what a sound job asks

  pub places_in_range : All (λ (p : ℕ × ℕ). (p.0 < length (job_of soc limits plan).tests) × (p.1 < length (job_of soc limits plan).tests)) (job_of soc limits plan).before
  places_in_range = all_from (λ (p : ℕ × ℕ). (p.0 < length (job_of soc limits plan).tests) × (p.1 < length (job_of soc limits plan).tests)) (job_of soc limits plan).before (λ k p at.
      let o : IsOfLimits soc limits p.0 p.1 = from_job p.0 p.1 (at_contains (job_of soc limits plan).before k p at) in
      let first = slice_get_within (live_ids soc) p.0 o.a o.first in
      let second = slice_get_within (live_ids soc) p.1 o.b o.second in
      let long = length-map (live_tests soc) id_of in
      let tests : length (job_of soc limits plan).tests ≡ length (live_tests soc) = length-map (live_tests soc) _ in
      (omega (arith, first, long, tests), omega (arith, second, long, tests)))

  pub acyclic_job : (rank : TestId → ℕ) → ((a b : TestId) → Contains limits.before (a, b) → Contains (live_ids soc) a → Contains (live_ids soc) b → rank a < rank b)
      → (i j : ℕ) → Precedes (job_of soc limits plan) i j → rank (slice_index_or (live_ids soc) i no_id) < rank (slice_index_or (live_ids soc) j no_id)
  acyclic_job rank grows i j before =
      let o : IsOfLimits soc limits i j = from_job i j before in
      rw (get_or_from_slice_get (live_ids soc) i o.a no_id o.first, get_or_from_slice_get (live_ids soc) j o.b no_id o.second) (grows o.a o.b o.there (at_contains (live_ids soc) i o.a o.first) (at_contains (live_ids soc) j o.b o.second))
