-- The sums over sorted events, event by event.
use Rattle.std.proofs.Common.{◌≡◌, ℕ, ◌+◌, ◌*◌, ◌≤◌, ◌<◌, ◌^◌, Option, Some, None, List, length, get_or, take, refl, ap, ◌∙◌, sym, arith, inl, inr, slice_get, sum_by}
use Rattle.std.specs.List.Sorted.{IsNonDecreasingBy, IsPermutation}
use Rattle.std.proofs.lemmas.Bool.{cases_lt, cases_eq}
use Rattle.std.proofs.lemmas.List.Sorted.{sum_by-IsPermutation}
use Rattle.std.proofs.lemmas.List.Sums.{sum_by_more}
use Rattle.std.proofs.lemmas.Option.{slice_get_within, slice_get-get_or}
use Rattle.plan_model.specs.Plans.{LimitsValue}
use Rattle.live_tests.specs.declared.placed.PlacedTest.{PlacedTest}
use Rattle.live_tests.specs.declared.power_events.Event.{Event}
use Rattle.plan_checker.specs.declared.events.Excess.{Excess}
use Rattle.plan_checker.specs.Events.{IsHigh, IsFirstHigh, IsFirstOver}
use Rattle.live_tests.specs.Events.{upto, begun_by, ended_by, all_events, IsLastOf}
use Rattle.live_tests.specs.Loads.{drawn_by}
use Rattle.plan_checker.specs.Power.{HasSmallSteps}
use Rattle.live_tests.proofs.Balance.{balance}
use Rattle.live_tests.proofs.Sweeping.{later_from, rises, sum_to}
use Rattle.plan_checker.proofs.Finding.{some_same}

-- the sums of the first `i` events, with none too high at a cycle before the next event
pub record IsSummed (events : List Event) (most i begun ended : ℕ) : Type 0 where
  pub begun_is : begun ≡ sum_by (λ (e : Event). e.begins) (take i events)
  pub ended_is : ended ≡ sum_by (λ (e : Event). e.ends) (take i events)
  pub few : begun ≤ i * 10 ^ 9
  pub few_ends : ended ≤ i * 10 ^ 9
  pub kept : (d : ℕ) → ((e : Event) → slice_get events i ≡ Some e → d < e.cycle) → begun_by events d ≤ ended_by events d + most

pub none_summed : (events : List Event) (most : ℕ) → IsNonDecreasingBy (λ (e : Event). e.cycle) events → IsSummed events most 0 0 0
none_summed events most sorted = record {
  begun_is = refl;
  ended_is = refl;
  few = omega arith;
  few_ends = omega arith;
  kept = λ d before.
      let none : begun_by events d ≡ 0 = sum_to (λ (e : Event). e.begins) events 0 d (λ j e less. absurd (omega arith)) (later_from events 0 d sorted before) in
      omega (arith, none);
}

-- the sums at a cycle between an event and the next one
record SumsAt (events : List Event) (begun ended d : ℕ) : Type 0 where
  begun_is : begun_by events d ≡ begun
  ended_is : ended_by events d ≡ ended

sums_at : (events : List Event) (i begun ended d : ℕ) (e : Event) → IsNonDecreasingBy (λ (e : Event). e.cycle) events → slice_get events i ≡ Some e → begun ≡ sum_by (λ (e : Event). e.begins) (take (i + 1) events) → ended ≡ sum_by (λ (e : Event). e.ends) (take (i + 1) events) → e.cycle ≤ d → ((f : Event) → slice_get events (i + 1) ≡ Some f → d < f.cycle) → SumsAt events begun ended d
sums_at events i begun ended d e sorted at begun_is ended_is from before = record {
  begun_is = sum_to (λ (e : Event). e.begins) events (i + 1) d first (later_from events (i + 1) d sorted before) ∙ sym begun_is;
  ended_is = sum_to (λ (e : Event). e.ends) events (i + 1) d first (later_from events (i + 1) d sorted before) ∙ sym ended_is;
}
  where
    first : (j : ℕ) (x : Event) → j < i + 1 → slice_get events j ≡ Some x → x.cycle ≤ d
    first j x less there = omega (arith, rises events j i x e sorted (omega arith) there at, from)

-- one event more: either others of its cycle follow, or the sums aren't too high
pub one_summed : (events : List Event) (most i begun ended begun' ended' : ℕ) (d : Event) → IsNonDecreasingBy (λ (e : Event). e.cycle) events → i < length events → IsSummed events most i begun ended → begun' ≡ begun + (get_or events i d).begins → ended' ≡ ended + (get_or events i d).ends → (get_or events i d).begins ≤ 10 ^ 9 → (get_or events i d).ends ≤ 10 ^ 9 → (IsLastOf events i → begun' ≤ ended' + most) → IsSummed events most (i + 1) begun' ended'
one_summed events most i begun ended begun' ended' d sorted within summed b e small small' low = record {
  begun_is = begun_is;
  ended_is = ended_is;
  few = omega (arith, summed.few);
  few_ends = omega (arith, summed.few_ends);
  kept = λ c before. elim (cases_lt c (get_or events i d).cycle) [
    | inl earlier ↦ summed.kept c (λ f at. let same : f ≡ get_or events i d = some_same (sym at ∙ here) in omega (arith, ap (λ (e : Event). e.cycle) same))
    | inr from ↦
        let sums : SumsAt events begun' ended' c = sums_at events i begun' ended' c (get_or events i d) sorted here begun_is ended_is from before in
        let last : IsLastOf events i = λ x y at at' same.
        let x_is : x ≡ get_or events i d = some_same (sym at ∙ here) in
        omega (arith, before y at', same, ap (λ (e : Event). e.cycle) x_is) in
        omega (arith, low last, sums.begun_is, sums.ended_is)
  ];
}
  where
    here : slice_get events i ≡ Some (get_or events i d)
    here = slice_get-get_or events i d within

    begun_is : begun' ≡ sum_by (λ (e : Event). e.begins) (take (i + 1) events)
    begun_is = omega (arith, b, summed.begun_is, sum_by_more (λ (e : Event). e.begins) events i d within)

    ended_is : ended' ≡ sum_by (λ (e : Event). e.ends) (take (i + 1) events)
    ended_is = omega (arith, e, summed.ended_is, sum_by_more (λ (e : Event). e.ends) events i d within)

-- the last event of a cycle at which the sums are too high
pub high_here : (events : List Event) (most i begun ended begun' ended' : ℕ) (d : Event) → IsNonDecreasingBy (λ (e : Event). e.cycle) events → i < length events → IsSummed events most i begun ended → begun' ≡ begun + (get_or events i d).begins → ended' ≡ ended + (get_or events i d).ends → IsLastOf events i → ended' + most < begun' → (sum : ℕ) → sum + ended' ≡ begun' → IsHigh events most (record { cycle = (get_or events i d).cycle; sum = sum })
high_here events most i begun ended begun' ended' d sorted within summed b e last high sum sum_is = record {
  more = omega (arith, high, sums.begun_is, sums.ended_is);
  sum_is = omega (arith, sum_is, sums.begun_is, sums.ended_is);
  earlier = λ c before. summed.kept c (λ f at. let same : f ≡ get_or events i d = some_same (sym at ∙ here) in omega (arith, ap (λ (e : Event). e.cycle) same));
}
  where
    here : slice_get events i ≡ Some (get_or events i d)
    here = slice_get-get_or events i d within

    sums : SumsAt events begun' ended' (get_or events i d).cycle
    sums = sums_at events i begun' ended' (get_or events i d).cycle (get_or events i d) sorted here
        (omega (arith, b, summed.begun_is, sum_by_more (λ (e : Event). e.begins) events i d within))
        (omega (arith, e, summed.ended_is, sum_by_more (λ (e : Event). e.ends) events i d within))
        (omega arith)
        (λ f at. let up : (get_or events i d).cycle ≤ f.cycle = rises events i (i + 1) (get_or events i d) f sorted (omega arith) here at in
        elim (cases_eq (get_or events i d).cycle f.cycle) [
          | inl same ↦ absurd (last (get_or events i d) f here at same)
          | inr other ↦ omega (arith, up, other)
        ])

pub all_summed : (events : List Event) (most i begun ended : ℕ) → length events ≤ i → IsSummed events most i begun ended → IsFirstHigh events most None
all_summed events most i begun ended all summed = λ d. summed.kept d (λ e at. absurd (omega (arith, slice_get_within events i e at)))

-- ---- from the events to what is drawn

pub over_from_high : (limits : LimitsValue) (placed : List PlacedTest) (events : List Event) (most : ℕ) → ((i : ℕ) (j : PlacedTest) → slice_get placed i ≡ Some j → HasSmallSteps limits j) → IsPermutation (all_events limits placed) events → (o : Option Excess) → IsFirstHigh events most o → IsFirstOver (drawn_by limits placed) most o
over_from_high limits placed events most has moved None low = λ d. omega (arith, low d, level d) where
  level : (d : ℕ) → drawn_by limits placed d + ended_by events d ≡ begun_by events d
  level d = omega (arith, balance limits d placed (λ i j at. (has i j at).steps), sum_by-IsPermutation (upto d (λ (e : Event). e.begins)) (all_events limits placed) events moved, sum_by-IsPermutation (upto d (λ (e : Event). e.ends)) (all_events limits placed) events moved)
over_from_high limits placed events most has moved (Some x) high = record {
  more = omega (arith, high.more, level x.cycle);
  sum_is = omega (arith, high.sum_is, level x.cycle);
  earlier = λ d before. omega (arith, high.earlier d before, level d);
}
  where
    level : (d : ℕ) → drawn_by limits placed d + ended_by events d ≡ begun_by events d
    level d = omega (arith, balance limits d placed (λ i j at. (has i j at).steps), sum_by-IsPermutation (upto d (λ (e : Event). e.begins)) (all_events limits placed) events moved, sum_by-IsPermutation (upto d (λ (e : Event). e.ends)) (all_events limits placed) events moved)
