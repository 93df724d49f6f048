-- The starts are noted one by one at the places of their tests.
use Rattle.std.proofs.Common.{◌≡◌, ◌⊎◌, inl, inr, ℕ, zero, suc, ◌+◌, ◌^◌, ◌<◌, ◌≤◌, Bool, true, false, Some, None, List, [], ◌∷◌, ◌++◌, length, get_or, map, set, take, replicate, nat_eq, position, refl, sym, ap, ◌∙◌, arith, true≢false, slice_get}
use Rattle.std.specs.List.{list_any}
use Rattle.std.proofs.lemmas.Bool.{cases_Bool, cases_eq, eqb-true, eq-eqb}
use Rattle.std.proofs.lemmas.List.{take_more}
use Rattle.std.proofs.lemmas.List.Quantifiers.{position-Some}
use Rattle.std.proofs.lemmas.Option.{slice_get_within, get_or_from_slice_get}
use Rattle.soc_model.specs.declared.TestId.{TestId}
use Rattle.soc_model.specs.Chips.{same_test}
use Rattle.plan_model.specs.Rules.{IsFirstBreach}
use Rattle.plan_model.proofs.Finding.{none_passes}
use Rattle.plan_model.proofs.Lists.{any_from, slice_get-replicate}
use Rattle.live_tests.specs.Names.{AllDiffer}
use Rattle.plan_checker.specs.declared.starts.TheConstants.{NO_START}
use Rattle.plan_checker.specs.Broken.{EachOf, IsKey}
use Rattle.plan_checker.specs.Listed.{StartEarly}
use Rattle.plan_checker.specs.Starting.{AreStarts, start_or}
use Rattle.plan_checker.proofs.Finding.{some_same}
use Rattle.live_tests.proofs.WrittenParents.{set_else}
use Rattle.plan_checker.proofs.Rooms.{same_test_is, same_test_itself}
use Rattle.common_lemmas.proofs.Lists.{map_at, from_map, set_here, contains_from, any_at, contains_at}

-- a start of the test is among these
abbrev has : TestId → List (TestId × ℕ) → Bool
has id starts = list_any (λ (s : TestId × ℕ). same_test s.0 id) starts

-- ---- the start of one test

-- a test that has a start is noted with an early one, the others with none
early_or_none : (starts : List (TestId × ℕ)) (id : TestId) → StartEarly starts → ((has id starts ≡ true) × (start_or NO_START starts id ≤ 10 ^ 18)) ⊎ ((has id starts ≡ false) × (start_or NO_START starts id ≡ NO_START))
early_or_none [] id early = inr (refl, refl)
early_or_none (s ∷ starts) id early = elim (cases_Bool (same_test s.0 id)) [
  | inl yes' ↦ rw yes' (inl (refl, early 0 s refl))
  | inr no' ↦ rw no' (early_or_none starts id (λ n x at. early (suc n) x at))
]

-- what stands for a test without a start doesn't matter where it has one
pub either_none : (starts : List (TestId × ℕ)) (id : TestId) (a b : ℕ) → has id starts ≡ true → start_or a starts id ≡ start_or b starts id
either_none [] id a b some = absurd (true≢false (sym some))
either_none (s ∷ starts) id a b some = elim (cases_Bool (same_test s.0 id)) [
  | inl yes' ↦ rw yes' refl
  | inr no' ↦ rw no' (either_none starts id a b (rw no' at some))
]

start_other : (starts : List (TestId × ℕ)) (s : TestId × ℕ) (id : TestId) (none : ℕ) → same_test s.0 id ≡ false → start_or none (starts ++ s ∷ []) id ≡ start_or none starts id
start_other [] s id none other = rw other refl
start_other (t ∷ starts) s id none other = elim (cases_Bool (same_test t.0 id)) [
  | inl yes' ↦ rw yes' refl
  | inr no' ↦ rw no' (start_other starts s id none other)
]

start_here : (starts : List (TestId × ℕ)) (s : TestId × ℕ) (id : TestId) (none : ℕ) → has id starts ≡ false → same_test s.0 id ≡ true → start_or none (starts ++ s ∷ []) id ≡ s.1
start_here [] s id none fresh here = rw here refl
start_here (t ∷ starts) s id none fresh here = elim (cases_Bool (same_test t.0 id)) [
  | inl yes' ↦ absurd (true≢false (rw yes' at fresh))
  | inr no' ↦ rw no' (start_here starts s id none (rw no' at fresh) here)
]

-- ---- tests that have a start

pub has_key : (id : TestId) (starts : List (TestId × ℕ)) → has id starts ≡ true → IsKey starts id
has_key id starts some =
    let r = any_at (λ (s : TestId × ℕ). same_test s.0 id) starts some in
    let same : (r.1).0 ≡ id = same_test_is (r.1).0 id r.3 in
    contains_from (map (λ (e : TestId × ℕ). e.0) starts) id r.0 (map_at (λ (e : TestId × ℕ). e.0) starts r.0 r.1 r.2 ∙ ap Some same)

pub key_has : (id : TestId) (starts : List (TestId × ℕ)) → IsKey starts id → has id starts ≡ true
key_has id starts c =
    let k = contains_at (map (λ (e : TestId × ℕ). e.0) starts) id c in
    let s = from_map (λ (e : TestId × ℕ). e.0) starts k.0 id k.1 in
    any_from (λ (s : TestId × ℕ). same_test s.0 id) starts k.0 s.0 s.1 (rw s.2 (same_test_itself id))

pub is_key : (ids : List TestId) (starts : List (TestId × ℕ)) (room : List ℕ) (place d : ℕ) (id : TestId) → AreStarts ids starts room → StartEarly starts → slice_get ids place ≡ Some id → get_or room place d < NO_START → IsKey starts id
is_key ids starts room place d id are early at less = elim (early_or_none starts id early) [
  | inl yes' ↦ has_key id starts yes'.0
  | inr no' ↦ absurd (omega (arith, less, get_or_from_slice_get room place _ d (are place id at), no'.1))
]

pub no_key : (ids : List TestId) (starts : List (TestId × ℕ)) (room : List ℕ) (place d : ℕ) (id : TestId) → AreStarts ids starts room → StartEarly starts → slice_get ids place ≡ Some id → NO_START ≤ get_or room place d → has id starts ≡ false
no_key ids starts room place d id are early at past = elim (early_or_none starts id early) [
  | inl yes' ↦ absurd (omega (arith, past, get_or_from_slice_get room place _ d (are place id at), yes'.1))
  | inr no' ↦ no'.0
]

-- ---- one start more

pub none_yet : (ids : List TestId) (room : List ℕ) (n : ℕ) → room ≡ replicate n NO_START → n ≡ length ids → AreStarts ids [] room
none_yet ids room n are long i id at = rw are (slice_get-replicate n i NO_START (omega (arith, slice_get_within ids i id at, long)))

pub starts_more : (ids : List TestId) (starts : List (TestId × ℕ)) (room : List ℕ) (k place : ℕ) (d s : TestId × ℕ) → AllDiffer ids → AreStarts ids (take k starts) room → k < length starts → get_or starts k d ≡ s → slice_get ids place ≡ Some s.0 → has s.0 (take k starts) ≡ false
    → AreStarts ids (take (k + 1) starts) (set room place s.1)
starts_more ids starts room k place d s apart are within is at fresh i id there =
    by (cases_eq i place) ∙ ap (λ (l : List (TestId × ℕ)). Some (start_or NO_START l id)) (sym (take_more starts k d within ∙ ap (λ (e : TestId × ℕ). take k starts ++ e ∷ []) is))
  where
    by : (i ≡ place) ⊎ (i ≡ place → ⊥) → slice_get (set room place s.1) i ≡ Some (start_or NO_START (take k starts ++ s ∷ []) id)
    by (inl same) =
        let one : id ≡ s.0 = some_same (sym there ∙ ap (slice_get ids) same ∙ at) in
        ap (slice_get (set room place s.1)) same ∙ set_here room place s.1 (slice_get_within room place _ (are place s.0 at))
        ∙ ap Some (sym (start_here (take k starts) s id NO_START (ap (λ (t : TestId). has t (take k starts)) one ∙ fresh) (ap (same_test s.0) one ∙ same_test_itself s.0)))
    by (inr other) =
        set_else room place i s.1 other ∙ are i id there ∙ ap Some (sym (start_other (take k starts) s id NO_START (differs (cases_Bool (same_test s.0 id)))))
      where
        differs : (same_test s.0 id ≡ true) ⊎ (same_test s.0 id ≡ false) → same_test s.0 id ≡ false
        differs (inl yes') = absurd (other (apart i place id there (at ∙ ap Some (same_test_is s.0 id yes'))))
        differs (inr no') = no'

-- the starts at the front are early too
pub front_early : (starts : List (TestId × ℕ)) (k : ℕ) → StartEarly starts → StartEarly (take k starts)
front_early starts k early n s at = early n s (from_front starts k n s at)
  where
    from_front : (starts : List (TestId × ℕ)) (k n : ℕ) (s : TestId × ℕ) → slice_get (take k starts) n ≡ Some s → slice_get starts n ≡ Some s
    from_front starts zero n s at = absurd cc
    from_front [] (suc k) n s at = absurd cc
    from_front (t ∷ starts) (suc k) zero s at = at
    from_front (t ∷ starts) (suc k) (suc n) s at = from_front starts k n s at

-- ---- once all are noted

pub first_without : (ids : List TestId) (starts : List (TestId × ℕ)) (room : List ℕ) (place : ℕ) (id : TestId) → AreStarts ids starts room → StartEarly starts → position (λ s. nat_eq s NO_START) room ≡ Some place → slice_get ids place ≡ Some id → IsFirstBreach (λ (earlier : List TestId) (t : TestId). IsKey starts t) ids place id
first_without ids starts room place id are early found at =
    let p = position-Some (λ s. nat_eq s NO_START) room place 0 found in
    record {
      there = at;
      breaks = λ key. (let no' = no_key ids starts room place 0 id are early at (omega (arith, eqb-true (get_or room place 0) NO_START p.1)) in true≢false (sym (key_has id starts key) ∙ no'));
      earlier = λ m t less there. elim (early_or_none starts t early) [
        | inl yes' ↦ has_key t starts yes'.0
        | inr no' ↦ absurd (true≢false (sym (eq-eqb (get_or room m 0) NO_START (get_or_from_slice_get room m _ 0 (are m t there) ∙ no'.1)) ∙ p.2 m less))
      ];
    }

pub all_started : (ids : List TestId) (starts : List (TestId × ℕ)) (room : List ℕ) → AreStarts ids starts room → StartEarly starts → position (λ s. nat_eq s NO_START) room ≡ None → EachOf (IsKey starts) ids
all_started ids starts room are early none m t there = elim (early_or_none starts t early) [
  | inl yes' ↦ has_key t starts yes'.0
  | inr no' ↦ absurd (true≢false (sym (eq-eqb (start_or NO_START starts t) NO_START no'.1) ∙ none_passes (λ s. nat_eq s NO_START) room none m (start_or NO_START starts t) (are m t there)))
]
