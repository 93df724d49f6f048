-- The events of tests: whose steps they are, by which cycle they end, and that they balance with what is drawn.
use Rattle.std.proofs.Common.{◌≡◌, ℕ, zero, suc, ◌+◌, ◌≤◌, ◌<◌, Bool, true, false, cond, Some, None, List, [], ◌∷◌, length, get_or, map, position, option_map, refl, sym, ap, ◌∙◌, arith, inl, inr}
use Rattle.std.specs.Prelude.{slice_get, nat_lt}
use Rattle.std.specs.List.{position_or_len}
use Rattle.std.specs.List.Sorted.{IsPermutation}
use Rattle.std.proofs.lemmas.Bool.{cases_Bool, cases_lt, lt-ltb, le-ltb}
use Rattle.std.proofs.lemmas.Bool.Decides.{nat_tests}
use Rattle.std.proofs.lemmas.List.Sorted.{IsPermutation-sym, Contains-permutation, sum_by-IsPermutation}
use Rattle.std.proofs.lemmas.Option.{slice_get-map, slice_get-get_or, slice_get_past, cond_some}
use Rattle.soc_model.specs.declared.TestId.{TestId}
use Rattle.soc_model.specs.Chips.{same_test}
use Rattle.plan_model.specs.declared.Profile.{Profile}
use Rattle.plan_model.specs.Plans.{ProfileValue, LimitsValue}
use Rattle.plan_model.specs.Views.{profile_value}
use Rattle.plan_model.proofs.Lists.{from_flat_map, at_contains}
use Rattle.live_tests.specs.declared.placed.PlacedTest.{PlacedTest}
use Rattle.live_tests.specs.declared.power_events.Event.{Event}
use Rattle.live_tests.specs.Events.{all_events, event_at, steps_from, step_events, test_events, steps_of, upto, EndBy, HasSteps}
use Rattle.live_tests.specs.Loads.{drawn_by, IsLoad}
use Rattle.live_tests.proofs.Balance.{balance}
use Rattle.common_lemmas.proofs.Options.{cond_none}
use Rattle.common_lemmas.proofs.Lists.{contains_at}

-- ---- the profile that is read

abbrev is_of : TestId → Profile → Bool
is_of id p = same_test p.test id

abbrev is_of_value : TestId → ProfileValue → Bool
is_of_value id p = same_test p.test id

same_place : (id : TestId) (ps : List Profile) → position_or_len (is_of_value id) (map profile_value ps) ≡ position_or_len (is_of id) ps
same_place id [] = refl
same_place id (p ∷ ps) = elim (cases_Bool (same_test p.test id)) [ inl yes' ↦ rw yes' refl | inr no' ↦ rw no' (ap (λ n. 1 + n) (same_place id ps)) ]

-- the steps of a test whose profile stands at a place
pub profile_steps : (ps : List Profile) (id : TestId) (own k : ℕ) (p : Profile) → position (is_of id) ps ≡ Some k → p ≡ get_or ps k p → steps_from (slice_get (map profile_value ps) (position_or_len (is_of_value id) (map profile_value ps))) own ≡ p.steps.items
profile_steps ps id own k p found is =
    let r = cond_some (nat_lt (position_or_len (is_of id) ps) (length ps)) (position_or_len (is_of id) ps) k found in
    let less : position_or_len (is_of id) ps < length ps = let t = r.0 in grind (arith, nat_tests) in
    let place : position_or_len (is_of_value id) (map profile_value ps) ≡ k = same_place id ps ∙ r.1 in
    let there : slice_get ps k ≡ Some p = slice_get-get_or ps k p (omega (arith, less, r.1)) ∙ ap Some (sym is) in
    ap (λ n. steps_from (slice_get (map profile_value ps) n) own) place
    ∙ ap (λ o. steps_from o own) (slice_get-map profile_value ps k ∙ ap (option_map profile_value) there)

-- and of one without a profile
pub own_steps : (ps : List Profile) (id : TestId) (own : ℕ) → position (is_of id) ps ≡ None → steps_from (slice_get (map profile_value ps) (position_or_len (is_of_value id) (map profile_value ps))) own ≡ (0, own) ∷ []
own_steps ps id own none =
    let past = cond_none (nat_lt (position_or_len (is_of id) ps) (length ps)) (position_or_len (is_of id) ps) none in
    let over : length ps ≤ position_or_len (is_of id) ps = grind (arith, nat_tests) in
    ap (λ n. steps_from (slice_get (map profile_value ps) n) own) (same_place id ps)
    ∙ ap (λ o. steps_from o own) (slice_get-map profile_value ps (position_or_len (is_of id) ps) ∙ ap (option_map profile_value) (slice_get_past ps (position_or_len (is_of id) ps) over))

-- ---- by which cycle they end

steps_end : (start end now : ℕ) (steps : List (ℕ × ℕ)) → EndBy end (step_events start end now steps)
steps_end start end now [] zero e there = let same : event_at end 0 now ≡ e = cc in omega (arith, ap (λ (e : Event). e.cycle) same)
steps_end start end now [] (suc i) e there = absurd cc
steps_end start end now (s ∷ steps) i e there = elim (cases_lt (start + s.0) end) [
  | inl within ↦ taken (λ k there'. steps_end start end s.1 steps k e there') i within (rw (lt-ltb (start + s.0) end within) at there)
  | inr past ↦ steps_end start end now steps i e (rw (le-ltb (start + s.0) end past) at there)
]
  where
    taken : ((k : ℕ) → slice_get (step_events start end s.1 steps) k ≡ Some e → e.cycle ≤ end) → (i : ℕ) → start + s.0 < end → slice_get (event_at (start + s.0) s.1 now ∷ step_events start end s.1 steps) i ≡ Some e → e.cycle ≤ end
    taken rest zero within there' = let same : event_at (start + s.0) s.1 now ≡ e = cc in omega (arith, within, ap (λ (e : Event). e.cycle) same)
    taken rest (suc i) within there' = rest i there'

pub end_by : (limits : LimitsValue) (tests : List PlacedTest) (events : List Event) (last : ℕ) → IsPermutation (all_events limits tests) events → ((i : ℕ) (t : PlacedTest) → slice_get tests i ≡ Some t → t.end ≤ last) → EndBy last events
end_by limits tests events last moved ends i e there =
    let at = contains_at (all_events limits tests) e (Contains-permutation events (all_events limits tests) e (IsPermutation-sym (all_events limits tests) events moved) (at_contains events i e there)) in
    let o = from_flat_map (test_events limits) tests at.0 e at.1 in
    omega (arith, ends o.0 o.1 o.3, steps_end (o.1).start (o.1).end 0 (steps_of limits o.1) o.2 e o.4)

-- ---- what they say together

pub load_is : (limits : LimitsValue) (tests : List PlacedTest) (events : List Event) → ((i : ℕ) (t : PlacedTest) → slice_get tests i ≡ Some t → HasSteps limits t) → IsPermutation (all_events limits tests) events → IsLoad (drawn_by limits tests) events
load_is limits tests events has moved d =
    omega (arith, balance limits d tests has, sum_by-IsPermutation (upto d (λ (e : Event). e.begins)) (all_events limits tests) events moved, sum_by-IsPermutation (upto d (λ (e : Event). e.ends)) (all_events limits tests) events moved)
