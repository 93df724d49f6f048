-- Precedences by the places of their tests stand for those by name.
use Rattle.std.proofs.Common.{◌≡◌, ℕ, zero, suc, ◌<◌, List, [], ◌∷◌, length, get_or, Bool, true, false, Option, Some, None, slice_get, position, refl, sym, ◌∙◌, ap, subst}
use Rattle.std.specs.List.{All, Contains, flat_map}
use Rattle.std.proofs.lemmas.List.Elements.{All-nil, All-cons, All-append, Contains-append_left, Contains-append_right}
use Rattle.std.proofs.lemmas.List.Quantifiers.{position-Some}
use Rattle.std.proofs.lemmas.Option.{slice_get-get_or}
use Rattle.soc_model.specs.declared.TestId.{TestId}
use Rattle.soc_model.specs.Chips.{same_test}
use Rattle.plan_model.proofs.CertificatesAreBounds.{same_test_is, is_same_test}
use Rattle.plan_model.proofs.Finding.{none_passes}
use Rattle.plan_model.proofs.Lists.{at_contains, from_flat_map}
use Rattle.live_tests.specs.Names.{both_places, places_of}
use Rattle.common_lemmas.proofs.Options.{some_same}
use Rattle.common_lemmas.proofs.Lists.{contains_at}

-- ---- places

-- the place of a test among these
abbrev pub place_among : List TestId → TestId → Option ℕ
place_among ids id = position (same_test id) ids

no_id : TestId
no_id = record { «module» = 0; test = 0 }

place_within : (p : ℕ) (ids : List TestId) (id : TestId) → place_among ids id ≡ Some p → p < length ids
place_within p ids id e = (position-Some (same_test id) ids p no_id e).0

-- a test that stands somewhere has a place
pub place_there : (k : ℕ) (ids : List TestId) (id : TestId) → slice_get ids k ≡ Some id → (p : ℕ) × (place_among ids id ≡ Some p)
place_there k ids id at = by (place_among ids id) refl
  where
    true_false : {b : Bool} → b ≡ true → b ≡ false → ⊥
    true_false e f = cc

    by : (o : Option ℕ) → place_among ids id ≡ o → (p : ℕ) × (place_among ids id ≡ Some p)
    by None e = absurd (true_false (is_same_test id) (none_passes (same_test id) ids e k id at))
    by (Some p) e = (p, e)

-- the test that has a place
pub test_there : (p : ℕ) (ids : List TestId) (id : TestId) → place_among ids id ≡ Some p → slice_get ids p ≡ Some id
test_there p ids id e =
    let at = position-Some (same_test id) ids p no_id e in
    slice_get-get_or ids p no_id at.0 ∙ ap Some (sym (same_test_is id (get_or ids p no_id) at.1))

-- ---- pairs

pub pairs_within : (ids : List TestId) (before : List (TestId × TestId)) → All (λ (e : ℕ × ℕ). (e.0 < length ids) × (e.1 < length ids)) (flat_map (places_of ids) before)
pairs_within ids [] = All-nil (λ (e : ℕ × ℕ). (e.0 < length ids) × (e.1 < length ids))
pairs_within ids (p ∷ before) =
    All-append (λ (e : ℕ × ℕ). (e.0 < length ids) × (e.1 < length ids)) (places_of ids p) (flat_map (places_of ids) before) (one (place_among ids p.0) (place_among ids p.1) (λ i e. place_within i ids p.0 e) (λ i e. place_within i ids p.1 e)) (pairs_within ids before)
  where
    one : (a b : Option ℕ) → ((i : ℕ) → a ≡ Some i → i < length ids) → ((i : ℕ) → b ≡ Some i → i < length ids) → All (λ (e : ℕ × ℕ). (e.0 < length ids) × (e.1 < length ids)) (both_places a b)
    one (Some i) (Some j) f g = All-cons (λ (e : ℕ × ℕ). (e.0 < length ids) × (e.1 < length ids)) (i, j) [] (f i refl, g j refl) (All-nil (λ (e : ℕ × ℕ). (e.0 < length ids) × (e.1 < length ids)))
    one None b f g = All-nil (λ (e : ℕ × ℕ). (e.0 < length ids) × (e.1 < length ids))
    one (Some i) None f g = All-nil (λ (e : ℕ × ℕ). (e.0 < length ids) × (e.1 < length ids))

-- a precedence of tests that have places is among the pairs
pub pair_there : (ids : List TestId) (before : List (TestId × TestId)) (k i j : ℕ) (a b : TestId) → slice_get before k ≡ Some (a, b) → place_among ids a ≡ Some i → place_among ids b ≡ Some j → Contains (flat_map (places_of ids) before) (i, j)
pair_there ids [] k i j a b at e f = cc
pair_there ids (p ∷ before) zero i j a b at e f =
    let same = some_same p (a, b) at in
    Contains-append_left (places_of ids p) (flat_map (places_of ids) before) (i, j)
    (subst (λ (q : TestId × TestId). Contains (places_of ids q) (i, j)) (sym same) (rw (e, f) (at_contains ((i, j) ∷ []) 0 (i, j) refl)))
pair_there ids (p ∷ before) (suc k) i j a b at e f = Contains-append_right (places_of ids p) (flat_map (places_of ids) before) (i, j) (pair_there ids before k i j a b at e f)

-- the precedence that a pair stands for
pub record StandsFor (ids : List TestId) (before : List (TestId × TestId)) (i j : ℕ) : Type 0 where
  pub first : TestId
  pub second : TestId
  pub precedes : Contains before (first, second)
  pub first_at : slice_get ids i ≡ Some first
  pub second_at : slice_get ids j ≡ Some second
  pub first_place : place_among ids first ≡ Some i
  pub second_place : place_among ids second ≡ Some j

pair_of : (a b : Option ℕ) (i j k : ℕ) → slice_get (both_places a b) k ≡ Some (i, j) → (a ≡ Some i) × (b ≡ Some j)
pair_of (Some m) (Some n) i j zero e = let same : (m, n) ≡ (i, j) = some_same {X = ℕ × ℕ} (m, n) (i, j) e in (ap Some (ap (λ (p : ℕ × ℕ). p.0) same), ap Some (ap (λ (p : ℕ × ℕ). p.1) same))
pair_of (Some m) (Some n) i j (suc k) e = cc
pair_of None b i j k e = cc
pair_of (Some m) None i j k e = cc

pub stands_for : (ids : List TestId) (before : List (TestId × TestId)) (i j : ℕ) → Contains (flat_map (places_of ids) before) (i, j) → StandsFor ids before i j
stands_for ids before i j c =
    let at = contains_at (flat_map (places_of ids) before) (i, j) c in
    let k = from_flat_map (places_of ids) before at.0 (i, j) at.1 in
    let places = pair_of (place_among ids k.1.0) (place_among ids k.1.1) i j k.2 k.4 in
    record {
      first = k.1.0;
      second = k.1.1;
      precedes = at_contains before k.0 k.1 k.3;
      first_at = test_there i ids k.1.0 places.0;
      second_at = test_there j ids k.1.1 places.1;
      first_place = places.0;
      second_place = places.1;
    }
