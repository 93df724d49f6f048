-- The events of tests are few, and their powers leave room for sums.
use Rattle.std.proofs.Common.{◌≡◌, ℕ, suc, ◌+◌, ◌*◌, ◌≤◌, ◌<◌, ◌^◌, Some, List, [], ◌∷◌, ◌++◌, length, get_or, take, ap, ◌∙◌, sym, refl, arith, inl, inr, slice_get, All}
use Rattle.std.proofs.lemmas.Bool.{cases_lt, lt-ltb, le-ltb}
use Rattle.std.proofs.lemmas.List.{length-append, take_more, append-nil, append_assoc}
use Rattle.std.proofs.lemmas.List.Elements.{All-cons, All-append, All-nil}
use Rattle.plan_model.specs.Plans.{LimitsValue}
use Rattle.live_tests.specs.declared.placed.PlacedTest.{PlacedTest}
use Rattle.live_tests.specs.Events.{event_at, step_events, test_events, all_events, steps_of}
use Rattle.plan_checker.specs.Events.{IsSmall}
use Rattle.plan_checker.specs.Power.{HasSmallSteps}

small_steps : (start end now : ℕ) (steps : List (ℕ × ℕ)) → now ≤ 10 ^ 9 → ((n : ℕ) (s : ℕ × ℕ) → slice_get steps n ≡ Some s → s.1 ≤ 10 ^ 9) → All IsSmall (step_events start end now steps)
small_steps start end now [] few small = All-cons IsSmall (event_at end 0 now) [] (record { begins = omega arith; ends = few }) (All-nil IsSmall)
small_steps start end now (s ∷ steps) few small = elim (cases_lt (start + s.0) end) [
  | inl within ↦ rw (lt-ltb (start + s.0) end within) (All-cons IsSmall (event_at (start + s.0) s.1 now) (step_events start end s.1 steps) (record { begins = small 0 s refl; ends = few }) (small_steps start end s.1 steps (small 0 s refl) (λ n t at. small (suc n) t at)))
  | inr past ↦ rw (le-ltb (start + s.0) end past) (small_steps start end now steps few (λ n t at. small (suc n) t at))
]

pub small_events : (limits : LimitsValue) (placed : List PlacedTest) → ((i : ℕ) (j : PlacedTest) → slice_get placed i ≡ Some j → HasSmallSteps limits j) → All IsSmall (all_events limits placed)
small_events limits [] has = All-nil IsSmall
small_events limits (j ∷ placed) has =
    let h : HasSmallSteps limits j = has 0 j refl in
    All-append IsSmall (test_events limits j) (all_events limits placed) (small_steps j.start j.end 0 (steps_of limits j) (omega arith) h.small) (small_events limits placed (λ i k at. has (suc i) k at))

pub few_step_events : (start end now : ℕ) (steps : List (ℕ × ℕ)) → length (step_events start end now steps) ≤ length steps + 1
few_step_events start end now [] = omega arith
few_step_events start end now (s ∷ steps) = elim (cases_lt (start + s.0) end) [
  | inl within ↦ rw (lt-ltb (start + s.0) end within) (omega (arith, few_step_events start end s.1 steps))
  | inr past ↦ rw (le-ltb (start + s.0) end past) (omega (arith, few_step_events start end now steps))
]

pub few_test_events : (limits : LimitsValue) (j : PlacedTest) → HasSmallSteps limits j → length (test_events limits j) ≤ 17
few_test_events limits j has = omega (arith, few_step_events j.start j.end 0 (steps_of limits j), has.few)

pub few_events : (limits : LimitsValue) (placed : List PlacedTest) → ((i : ℕ) (j : PlacedTest) → slice_get placed i ≡ Some j → HasSmallSteps limits j) → length (all_events limits placed) ≤ length placed * 17
few_events limits [] has = omega arith
few_events limits (j ∷ placed) has = omega (arith, length-append (test_events limits j) (all_events limits placed), few_test_events limits j (has 0 j refl), few_events limits placed (λ i k at. has (suc i) k at))

pub more_events : (limits : LimitsValue) (placed : List PlacedTest) (i : ℕ) (d : PlacedTest) → i < length placed → all_events limits (take (i + 1) placed) ≡ all_events limits (take i placed) ++ test_events limits (get_or placed i d)
more_events limits placed i d within = ap (all_events limits) (take_more placed i d within) ∙ joined (take i placed) (get_or placed i d)
  where
    joined : (js : List PlacedTest) (j : PlacedTest) → all_events limits (js ++ j ∷ []) ≡ all_events limits js ++ test_events limits j
    joined [] j = append-nil (test_events limits j)
    joined (k ∷ js) j = ap (λ v. test_events limits k ++ v) (joined js j) ∙ sym (append_assoc (test_events limits k) (all_events limits js) (test_events limits j))
