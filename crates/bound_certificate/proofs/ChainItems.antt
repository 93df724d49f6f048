-- Tests of a list by their names, and precedences.
use Rattle.std.proofs.Common.{◌≡◌, ℕ, suc, ◌-◌, ◌≤◌, ◌<◌, Bool, true, false, eqb, Option, Some, None, is_some, option_map, List, length, get_or, take, refl, ap, ◌∙◌, arith, slice_get, IsTrue, MatchBool, ◌↔◌, find, Contains}
use Rattle.plan_model.specs.Bounds.{lower}
use Rattle.std.proofs.lemmas.Option.{slice_get-map, slice_get-get_or, get_or_from_slice_get}
use Rattle.soc_model.specs.declared.TestId.{TestId}
use Rattle.soc_model.specs.Chips.{SocValue, LiveTest, live_tests, id_of}
use Rattle.plan_model.specs.Plans.{LimitsValue}
use Rattle.plan_model.specs.Rules.{live_ids}
use Rattle.plan_model.specs.Certificates.{is_called, Follows, IsChainItem}
use Rattle.plan_model.proofs.Lists.{at_contains, last-take}
use Rattle.plan_model.proofs.CertificatesAreBounds.{same_test_is, is_same_test}
use Rattle.bound_rules.proofs.Naming.{found_some}
use Rattle.common_lemmas.proofs.Lists.{found_at, contains_at, from_map}

-- a name of a live test is found, and what is found has the name
pub found_live : (soc : SocValue) (id : TestId) → is_some (find (is_called id) (live_tests soc)) ≡ true → Contains (live_ids soc) id
found_live soc id h = go (find (is_called id) (live_tests soc)) refl h where
  go : (o : Option LiveTest) → find (is_called id) (live_tests soc) ≡ o → is_some o ≡ true → Contains (live_ids soc) id
  go None e h = absurd cc
  go (Some l) e h =
      let q = found_at (is_called id) (live_tests soc) l e in
      at_contains (live_ids soc) q.0 id (slice_get-map id_of (live_tests soc) q.0 ∙ rw q.1 (ap Some (same_test_is (id_of l) id q.2)))

pub live_found : (soc : SocValue) (id : TestId) → Contains (live_ids soc) id → is_some (find (is_called id) (live_tests soc)) ≡ true
live_found soc id live =
    let k = contains_at (live_ids soc) id live in
    let q = from_map id_of (live_tests soc) k.0 id k.1 in
    found_some (is_called id) (live_tests soc) k.0 q.0 q.1 (rw q.2 (is_same_test id))

some-mapped : {X Y : Type 0} (f : X → Y) (o : Option X) → is_some (option_map f o) ≡ is_some o
some-mapped f None = refl
some-mapped f (Some x) = refl

pub timed_live : (soc : SocValue) (id : TestId) (f : LiveTest → ℕ) (o : Option ℕ) → o ≡ option_map f (find (is_called id) (live_tests soc)) → is_some o ≡ is_some (find (is_called id) (live_tests soc))
timed_live soc id f o is = ap is_some is ∙ some-mapped f (find (is_called id) (live_tests soc))

-- the first of a list follows nothing, and any other the one before it
pub first_follows : (limits : LimitsValue) (ids : List TestId) (id : TestId) → Follows limits (take 0 ids) id
first_follows limits ids id last at = absurd cc

pub next_follows : (limits : LimitsValue) (ids : List TestId) (n : ℕ) (a id : TestId) → 1 ≤ n → slice_get ids (n - 1) ≡ Some a → Contains limits.before (a, id) → Follows limits (take n ids) id
next_follows limits ids n a id some at before last at' =
    let same : n ≡ suc (n - 1) = omega arith in
    let there = last-take ids (n - 1) a at in
    let there' = rw (← same) at there in
    let item : a ≡ last = cc in
    rw (← item) before

pub follows_next : (limits : LimitsValue) (ids : List TestId) (n : ℕ) (a id : TestId) → 1 ≤ n → slice_get ids (n - 1) ≡ Some a → Follows limits (take n ids) id → Contains limits.before (a, id)
follows_next limits ids n a id some at follows =
    let same : n ≡ suc (n - 1) = omega arith in
    let there = last-take ids (n - 1) a at in
    let there' = rw (← same) at there in
    follows a there'

abbrev pub no_id : TestId
no_id = record { «module» = 0; test = 0 }

-- what was found of the name at a place
pub found_of : (soc : SocValue) (w : ℕ) (ids : List TestId) (place : ℕ) (d id : TestId) (o : Option ℕ) → o ≡ option_map (lower w) (find (is_called (get_or ids place d)) (live_tests soc)) → slice_get ids place ≡ Some id → is_some o ≡ is_some (find (is_called id) (live_tests soc))
found_of soc w ids place d id o is at =
    let here : get_or ids place d ≡ id = get_or_from_slice_get ids place id d at in
    let is' = rw here at is in
    timed_live soc id (lower w) o is'

pub stands_when : (soc : SocValue) (limits : LimitsValue) (ids : List TestId) (place : ℕ) (d id before : TestId) (b : Bool) → 1 ≤ place → place < length ids → slice_get ids place ≡ Some id → is_some (find (is_called id) (live_tests soc)) ≡ true →
    (IsTrue b ↔ Contains limits.before (get_or ids (place - 1) d, get_or ids place d)) → MatchBool b (IsChainItem soc limits (take place ids) id) (IsChainItem soc limits (take place ids) id → ⊥)
stands_when soc limits ids place d id before b some within at live is = go b is where
  here : get_or ids place d ≡ id
  here = get_or_from_slice_get ids place id d at

  one : slice_get ids (place - 1) ≡ Some (get_or ids (place - 1) d)
  one = slice_get-get_or ids (place - 1) d (omega arith)

  go : (b : Bool) → (IsTrue b ↔ Contains limits.before (get_or ids (place - 1) d, get_or ids place d)) → MatchBool b (IsChainItem soc limits (take place ids) id) (IsChainItem soc limits (take place ids) id → ⊥)
  go true is =
      let before : Contains limits.before (get_or ids (place - 1) d, get_or ids place d) = is.0 refl in
      let before' = rw here at before in
      (found_live soc id live, next_follows limits ids place (get_or ids (place - 1) d) id some one before')
  go false is = λ keeps.
      let before : Contains limits.before (get_or ids (place - 1) d, id) = follows_next limits ids place (get_or ids (place - 1) d) id some one keeps.1 in
      let before' = rw (← here) at before in
      let wrong : false ≡ true = is.1 before' in
      absurd cc

pub first_stands : (soc : SocValue) (limits : LimitsValue) (ids : List TestId) (place : ℕ) (id : TestId) → place ≡ 0 → is_some (find (is_called id) (live_tests soc)) ≡ true →
    MatchBool (eqb place 0) (IsChainItem soc limits (take place ids) id) (IsChainItem soc limits (take place ids) id → ⊥)
first_stands soc limits ids place id first live = rw first (found_live soc id live, first_follows limits ids id)
