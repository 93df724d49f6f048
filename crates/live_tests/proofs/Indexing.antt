-- The names of live tests are added module by module; their places and starts are noted by name, from the last one back to the
-- first; precedences are looked up one by one.
use Rattle.std.proofs.Common.{◌≡◌, ℕ, suc, ◌+◌, ◌<◌, Bool, cond, Option, Some, List, [], ◌∷◌, ◌++◌, length, get_or, map, take, drop, position, refl, sym, ap, ◌∙◌, arith, inl, inr, true≢false}
use Rattle.std.specs.List.{filter, flat_map, position_from}
use Rattle.std.specs.Map.{lookup}
use Rattle.std.proofs.Math.Seq.{drop-cons}
use Rattle.std.proofs.lemmas.Bool.{cases_Bool}
use Rattle.std.proofs.lemmas.Iterator.Adapters.{position_from-zero}
use Rattle.std.proofs.lemmas.List.{map-append, take_more, append-nil}
use Rattle.std.proofs.lemmas.Grind.{flat_map-append}
use Rattle.soc_model.specs.declared.Test.{Test}
use Rattle.soc_model.specs.declared.TestId.{TestId}
use Rattle.soc_model.specs.Chips.{ModuleValue, SocValue, is_live, live_of, live_from, id_of, same_test}
use Rattle.plan_model.specs.Rules.{live_ids}
use Rattle.plan_model.proofs.CertificatesAreBounds.{same_test_is, is_same_test}
use Rattle.live_tests.specs.Names.{names_in, both_places, places_of}
use Rattle.common_lemmas.proofs.Lists.{map_twice}

-- ---- the names, module by module

names_from : (base : ℕ) (ms : List ModuleValue) → flat_map names_in ms ≡ map id_of (live_from base ms)
unfolding live_from
names_from base [] = refl
names_from base (m ∷ ms) =
    let here : map id_of (live_of base m) ≡ names_in m = map_twice id_of (λ (t : Test). record { place = base; core = m; test = t }) (filter is_live m.tests) in
    ap (λ ns. names_in m ++ ns) (names_from (base + 1) ms) ∙ ap (λ ns. ns ++ map id_of (live_from (base + 1) ms)) (sym here) ∙ sym (map-append id_of (live_of base m) (live_from (base + 1) ms))

-- the names of the live tests of all modules
pub names_are : (soc : SocValue) → flat_map names_in soc.modules ≡ live_ids soc
names_are soc = names_from 0 soc.modules

-- ---- places and starts by name

pub same_test_turned : (a b : TestId) → same_test a b ≡ same_test b a
same_test_turned a b = elim (cases_Bool (same_test b a)) [
  | inl yes' ↦ rw (same_test_is b a yes') refl
  | inr no' ↦ elim (cases_Bool (same_test a b)) [
    | inl yes' ↦ absurd (true≢false (sym (ap (λ v. same_test v a) (sym (same_test_is a b yes')) ∙ is_same_test a) ∙ no'))
    | inr no'' ↦ no'' ∙ sym no'
  ]
]

-- one name more, in front of those that are noted
pub places_more : (names : List TestId) (k place : ℕ) (d : TestId) (old new : TestId → Option ℕ) → k + 1 ≡ place → k < length names → ((id : TestId) → old id ≡ position_from (same_test id) place (drop place names))
    → ((id : TestId) → new id ≡ cond (same_test (get_or names k d) id) (Some k) (old id)) → (id : TestId) → new id ≡ position_from (same_test id) k (drop k names)
places_more names k place d old new is within before added id =
    let next : place ≡ suc k = omega (arith, is) in
    added id ∙ ap (λ (b : Bool). cond b (Some k) (old id)) (same_test_turned (get_or names k d) id)
    ∙ ap (λ (o : Option ℕ). cond (same_test id (get_or names k d)) (Some k) o) (before id ∙ ap (λ n. position_from (same_test id) n (drop place names)) (sym is) ∙ ap (λ n. position_from (same_test id) (k + 1) (drop n names)) next)
    ∙ ap (position_from (same_test id) k) (sym (drop-cons names k d within))

-- when all are noted
pub places_all : (names : List TestId) (id : TestId) → position_from (same_test id) 0 names ≡ position (same_test id) names
places_all names id = sym (position_from-zero (same_test id) names)

-- one start more, in front of those that are noted
pub starts_more : (starts : List (TestId × ℕ)) (k place : ℕ) (d : TestId × ℕ) (old new : TestId → Option ℕ) → k + 1 ≡ place → k < length starts → ((id : TestId) → old id ≡ lookup (same_test id) (drop place starts))
    → ((id : TestId) → new id ≡ cond (same_test (get_or starts k d).0 id) (Some (get_or starts k d).1) (old id)) → (id : TestId) → new id ≡ lookup (same_test id) (drop k starts)
starts_more starts k place d old new is within before added id =
    let next : place ≡ suc k = omega (arith, is) in
    added id ∙ ap (λ (b : Bool). cond b (Some (get_or starts k d).1) (old id)) (same_test_turned (get_or starts k d).0 id)
    ∙ ap (λ (o : Option ℕ). cond (same_test id (get_or starts k d).0) (Some (get_or starts k d).1) o) (before id ∙ ap (λ n. lookup (same_test id) (drop n starts)) next)
    ∙ ap (lookup (same_test id)) (sym (drop-cons starts k d within))

-- ---- precedences by places

-- one precedence more
pub pairs_more : (keys : List TestId) (before : List (TestId × TestId)) (k : ℕ) (d : TestId × TestId) (a b : Option ℕ) (old new : List (ℕ × ℕ)) → old ≡ flat_map (places_of keys) (take k before) → k < length before
    → a ≡ position (same_test (get_or before k d).0) keys → b ≡ position (same_test (get_or before k d).1) keys → new ≡ old ++ both_places a b → new ≡ flat_map (places_of keys) (take (k + 1) before)
pairs_more keys before k d a b old new so_far within first second added =
    let pair : both_places a b ≡ places_of keys (get_or before k d) = ap (λ (x : Option ℕ). both_places x b) first ∙ ap (λ (y : Option ℕ). both_places (position (same_test (get_or before k d).0) keys) y) second in
    let push : flat_map (places_of keys) (take k before ++ get_or before k d ∷ []) ≡ flat_map (places_of keys) (take k before) ++ places_of keys (get_or before k d) =
    flat_map-append (places_of keys) (take k before) (get_or before k d ∷ []) ∙ ap (λ (l : List (ℕ × ℕ)). flat_map (places_of keys) (take k before) ++ l) (append-nil (places_of keys (get_or before k d))) in
    added ∙ ap (λ (l : List (ℕ × ℕ)). l ++ both_places a b) so_far ∙ ap (λ (l : List (ℕ × ℕ)). flat_map (places_of keys) (take k before) ++ l) pair
    ∙ sym (ap (flat_map (places_of keys)) (take_more before k d within) ∙ push)
