-- What a test draws at a cycle, and what its events end by then, is what they begin by then.
use Rattle.std.proofs.Common.{◌≡◌, ℕ, suc, ◌+◌, ◌-◌, ◌≤◌, ◌<◌, ltb, Some, List, [], ◌∷◌, refl, ap, ◌∙◌, arith, inl, inr, ◌⊎◌}
use Rattle.std.specs.Prelude.{slice_get, if◌then◌else◌}
use Rattle.std.specs.List.{sum_by, position_or_len}
use Rattle.std.proofs.lemmas.Bool.{cases_Bool, cases_lt, lt-ltb, le-ltb, le-leb, lt-leb}
use Rattle.std.proofs.lemmas.List.Sums.{sum_by-cons, sum_by-append}
use Rattle.soc_model.specs.declared.TestId.{TestId}
use Rattle.soc_model.specs.Chips.{same_test}
use Rattle.plan_model.specs.Plans.{ProfileValue, LimitsValue, step_power, of_first, power_of_id}
use Rattle.plan_model.specs.SoundLimits.{Grow}
use Rattle.live_tests.specs.declared.placed.PlacedTest.{PlacedTest}
use Rattle.live_tests.specs.declared.power_events.Event.{Event}
use Rattle.live_tests.specs.Events.{event_at, step_events, test_events, all_events, upto, begun_by, ended_by, steps_from, steps_of, HasSteps}
use Rattle.live_tests.specs.Loads.{drawn, drawn_by}

-- ---- one event more

upto_here : (c : ℕ) (f : Event → ℕ) (e : Event) → e.cycle ≤ c → upto c f e ≡ f e
upto_here c f e within = rw (le-leb e.cycle c within) refl

upto_later : (c : ℕ) (f : Event → ℕ) (e : Event) → c < e.cycle → upto c f e ≡ 0
upto_later c f e later = rw (lt-leb e.cycle c later) refl

one_event : (c : ℕ) (f : Event → ℕ) (e : Event) → sum_by (upto c f) (e ∷ []) ≡ upto c f e
one_event c f e = omega (arith, sum_by-cons (upto c f) e [])

-- ---- events that come later

later_sum : (f : Event → ℕ) (start end now c low : ℕ) (steps : List (ℕ × ℕ)) → Grow low steps → c < start + low → c < end → sum_by (upto c f) (step_events start end now steps) ≡ 0
later_sum f start end now c low [] grow before active = one_event c f (event_at end 0 now) ∙ upto_later c f (event_at end 0 now) active
later_sum f start end now c low (s ∷ steps) grow before active = elim (cases_lt (start + s.0) end) [
  | inl within ↦
      let e : Event = event_at (start + s.0) s.1 now in
      let here : upto c f e ≡ 0 = upto_later c f e (omega (arith, grow.0)) in
      let rest : sum_by (upto c f) (step_events start end s.1 steps) ≡ 0 = later_sum f start end s.1 c (s.0 + 1) steps grow.1 (omega (arith, grow.0)) active in
      rw (lt-ltb (start + s.0) end within) (omega (arith, sum_by-cons (upto c f) e (step_events start end s.1 steps), here, rest))
  | inr past ↦ rw (le-ltb (start + s.0) end past) (later_sum f start end now c (s.0 + 1) steps grow.1 (omega (arith, grow.0)) active)
]

-- steps from later on say nothing yet
later_power : (r now low : ℕ) (steps : List (ℕ × ℕ)) → Grow low steps → r < low → step_power r now steps ≡ now
later_power r now low [] grow before = refl
later_power r now low (s ∷ steps) grow before = rw (lt-leb s.0 r (omega (arith, grow.0))) (later_power r now (s.0 + 1) steps grow.1 (omega (arith, grow.0)))

-- ---- the steps of one test

-- what is drawn before the end
abbrev drawn_to : (c end power : ℕ) → ℕ
drawn_to c end power = if ltb c end then power else 0

to_here : (c end power : ℕ) → c < end → drawn_to c end power ≡ power
to_here c end power active = rw (lt-ltb c end active) refl

to_past : (c end power : ℕ) → end ≤ c → drawn_to c end power ≡ 0
to_past c end power past = rw (le-ltb c end past) refl

abbrev begun : (c start end now : ℕ) → List (ℕ × ℕ) → ℕ
begun c start end now steps = begun_by (step_events start end now steps) c

abbrev ended : (c start end now : ℕ) → List (ℕ × ℕ) → ℕ
ended c start end now steps = ended_by (step_events start end now steps) c

step_balance : (c start end now low : ℕ) (steps : List (ℕ × ℕ)) → Grow low steps → start ≤ c → now + begun c start end now steps ≡ ended c start end now steps + drawn_to c end (step_power (c - start) now steps)
step_balance c start end now low [] grow from = elim (cases_lt c end) [
  | inl active ↦
      let b : begun c start end now [] ≡ 0 = one_event c (λ (e : Event). e.begins) (event_at end 0 now) ∙ upto_later c (λ (e : Event). e.begins) (event_at end 0 now) active in
      let e : ended c start end now [] ≡ 0 = one_event c (λ (e : Event). e.ends) (event_at end 0 now) ∙ upto_later c (λ (e : Event). e.ends) (event_at end 0 now) active in
      omega (arith, b, e, to_here c end now active)
  | inr past ↦
      let b : begun c start end now [] ≡ 0 = one_event c (λ (e : Event). e.begins) (event_at end 0 now) ∙ upto_here c (λ (e : Event). e.begins) (event_at end 0 now) past in
      let e : ended c start end now [] ≡ now = one_event c (λ (e : Event). e.ends) (event_at end 0 now) ∙ upto_here c (λ (e : Event). e.ends) (event_at end 0 now) past in
      omega (arith, b, e, to_past c end now past)
]
step_balance c start end now low (s ∷ steps) grow from = elim (cases_lt (start + s.0) end) [
  | inl within ↦ rw (lt-ltb (start + s.0) end within) (taken (cases_lt c (start + s.0)) within (step_balance c start end s.1 (s.0 + 1) steps grow.1 from))
  | inr past ↦ rw (le-ltb (start + s.0) end past) (passed (cases_lt c end) past (step_balance c start end now (s.0 + 1) steps grow.1 from))
]
  where
    taken : (c < start + s.0) ⊎ (start + s.0 ≤ c) → start + s.0 < end → s.1 + begun c start end s.1 steps ≡ ended c start end s.1 steps + drawn_to c end (step_power (c - start) s.1 steps) → now + begun_by (event_at (start + s.0) s.1 now ∷ step_events start end s.1 steps) c ≡ ended_by (event_at (start + s.0) s.1 now ∷ step_events start end s.1 steps) c + drawn_to c end (step_power (c - start) now (s ∷ steps))
    taken (inl later) within rest =
        let b : upto c (λ (e : Event). e.begins) (event_at (start + s.0) s.1 now) ≡ 0 = upto_later c (λ (e : Event). e.begins) (event_at (start + s.0) s.1 now) later in
        let d : upto c (λ (e : Event). e.ends) (event_at (start + s.0) s.1 now) ≡ 0 = upto_later c (λ (e : Event). e.ends) (event_at (start + s.0) s.1 now) later in
        let b' : begun c start end s.1 steps ≡ 0 = later_sum (λ (e : Event). e.begins) start end s.1 c (s.0 + 1) steps grow.1 (omega arith) (omega arith) in
        let d' : ended c start end s.1 steps ≡ 0 = later_sum (λ (e : Event). e.ends) start end s.1 c (s.0 + 1) steps grow.1 (omega arith) (omega arith) in
        let p : step_power (c - start) now (s ∷ steps) ≡ now = later_power (c - start) now s.0 (s ∷ steps) (omega arith, grow.1) (omega arith) in
        let t : drawn_to c end (step_power (c - start) now (s ∷ steps)) ≡ now = to_here c end (step_power (c - start) now (s ∷ steps)) (omega arith) ∙ p in
        omega (arith, b, d, b', d', t, sum_by-cons (upto c (λ (e : Event). e.begins)) (event_at (start + s.0) s.1 now) (step_events start end s.1 steps), sum_by-cons (upto c (λ (e : Event). e.ends)) (event_at (start + s.0) s.1 now) (step_events start end s.1 steps))
    taken (inr here) within rest =
        let b : upto c (λ (e : Event). e.begins) (event_at (start + s.0) s.1 now) ≡ s.1 = upto_here c (λ (e : Event). e.begins) (event_at (start + s.0) s.1 now) here in
        let d : upto c (λ (e : Event). e.ends) (event_at (start + s.0) s.1 now) ≡ now = upto_here c (λ (e : Event). e.ends) (event_at (start + s.0) s.1 now) here in
        let p : step_power (c - start) now (s ∷ steps) ≡ step_power (c - start) s.1 steps = rw (le-leb s.0 (c - start) (omega arith)) refl in
        let t : drawn_to c end (step_power (c - start) now (s ∷ steps)) ≡ drawn_to c end (step_power (c - start) s.1 steps) = ap (drawn_to c end) p in
        omega (arith, b, d, rest, t, sum_by-cons (upto c (λ (e : Event). e.begins)) (event_at (start + s.0) s.1 now) (step_events start end s.1 steps), sum_by-cons (upto c (λ (e : Event). e.ends)) (event_at (start + s.0) s.1 now) (step_events start end s.1 steps))

    passed : (c < end) ⊎ (end ≤ c) → end ≤ start + s.0 → now + begun c start end now steps ≡ ended c start end now steps + drawn_to c end (step_power (c - start) now steps) → now + begun c start end now steps ≡ ended c start end now steps + drawn_to c end (step_power (c - start) now (s ∷ steps))
    passed (inl active) past rest =
        let p : step_power (c - start) now (s ∷ steps) ≡ step_power (c - start) now steps = rw (lt-leb s.0 (c - start) (omega arith)) refl in
        let t : drawn_to c end (step_power (c - start) now (s ∷ steps)) ≡ drawn_to c end (step_power (c - start) now steps) = ap (drawn_to c end) p in
        omega (arith, t, rest)
    passed (inr over) past rest =
        omega (arith, to_past c end (step_power (c - start) now (s ∷ steps)) over, to_past c end (step_power (c - start) now steps) over, rest)

-- ---- the first profile of a test

first_power : (ps : List ProfileValue) (id : TestId) (own r : ℕ) → of_first (λ (p : ProfileValue). same_test p.test id) (λ p. step_power r 0 p.steps) own ps ≡ step_power r 0 (steps_from (slice_get ps (position_or_len (λ (p : ProfileValue). same_test p.test id) ps)) own)
first_power [] id own r = rw (le-leb 0 r (omega arith)) refl
first_power (p ∷ ps) id own r = elim (cases_Bool (same_test p.test id)) [
  | inl yes' ↦ rw yes' refl
  | inr no' ↦
      let e : 1 + position_or_len (λ (p : ProfileValue). same_test p.test id) ps ≡ suc (position_or_len (λ (p : ProfileValue). same_test p.test id) ps) = omega arith in
      rw (no', e) (first_power ps id own r)
]

-- the power of a test, by its steps
pub test_power : (limits : LimitsValue) (t : PlacedTest) (r : ℕ) → power_of_id limits t.id t.power r ≡ step_power r 0 (steps_of limits t)
test_power limits t r = first_power limits.profiles t.id t.power r

-- ---- all tests

test_balance : (limits : LimitsValue) (c : ℕ) (t : PlacedTest) → HasSteps limits t → drawn limits c t + ended_by (test_events limits t) c ≡ begun_by (test_events limits t) c
test_balance limits c t has = elim (cases_lt c t.start) [
  | inl before ↦
      let b : begun_by (test_events limits t) c ≡ 0 = later_sum (λ (e : Event). e.begins) t.start t.end 0 c 0 (steps_of limits t) has.grow (omega arith) (omega (arith, has.ends_later)) in
      let d : ended_by (test_events limits t) c ≡ 0 = later_sum (λ (e : Event). e.ends) t.start t.end 0 c 0 (steps_of limits t) has.grow (omega arith) (omega (arith, has.ends_later)) in
      let none : drawn limits c t ≡ 0 = rw (lt-leb t.start c before) refl in
      omega (arith, b, d, none)
  | inr from ↦
      let all : 0 + begun c t.start t.end 0 (steps_of limits t) ≡ ended c t.start t.end 0 (steps_of limits t) + drawn_to c t.end (step_power (c - t.start) 0 (steps_of limits t)) = step_balance c t.start t.end 0 0 (steps_of limits t) has.grow from in
      let same : drawn limits c t ≡ drawn_to c t.end (step_power (c - t.start) 0 (steps_of limits t)) = rw (le-leb t.start c from) (ap (drawn_to c t.end) (test_power limits t (c - t.start))) in
      omega (arith, all, same)
]

pub balance : (limits : LimitsValue) (c : ℕ) (tests : List PlacedTest) → ((i : ℕ) (t : PlacedTest) → slice_get tests i ≡ Some t → HasSteps limits t) → drawn_by limits tests c + ended_by (all_events limits tests) c ≡ begun_by (all_events limits tests) c
balance limits c [] has = refl
balance limits c (t ∷ tests) has =
    let here : drawn limits c t + ended_by (test_events limits t) c ≡ begun_by (test_events limits t) c = test_balance limits c t (has 0 t refl) in
    let rest : drawn_by limits tests c + ended_by (all_events limits tests) c ≡ begun_by (all_events limits tests) c = balance limits c tests (λ i k at. has (suc i) k at) in
    omega (arith, here, rest, sum_by-cons (drawn limits c) t tests, sum_by-append (upto c (λ (e : Event). e.begins)) (test_events limits t) (all_events limits tests), sum_by-append (upto c (λ (e : Event). e.ends)) (test_events limits t) (all_events limits tests))
