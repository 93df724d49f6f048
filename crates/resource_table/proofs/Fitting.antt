-- Where a test fits, by the resources of a table.
use Rattle.std.proofs.Common.{◌≡◌, ℕ, zero, suc, ◌+◌, ◌-◌, ◌<◌, ◌≤◌, ◌^◌, inl, inr, None, Some, List, [], ◌∷◌, length, arith, false, refl, sym, ap, subst, slice_get, nat_le, nat_lt, ◌&&◌, if◌then◌else◌, IfSome, All, flat_map}
use Rattle.std.proofs.lemmas.Bool.{cases_lt, lt-leb, le-leb, lt-ltb, le-ltb, and_right}
use Rattle.std.proofs.lemmas.List.Sums.{sum_by-cons, sum_by-append, get_or-le-sum_by}
use Rattle.plan_model.{specs.Plans.step_power, specs.SoundLimits.Grow, proofs.Lists.from_flat_map, proofs.Greatest.le-greatest_at, proofs.Greatest.greatest-least}
use Rattle.resource_table.specs.declared.Placement.{Placement}
use Rattle.busy_times.specs.declared.power.Draw.{Draw}
use Rattle.resource_table.specs.Jobs.{TestValue, JobValue, test_at, no_test, cycles_of, IsSoundJob}
use Rattle.resource_table.specs.Schedules.{TableValue, end_of, last_end, drawn, power_of, power_at, StaysWithin, IsSoundTable}
use Rattle.busy_times.specs.Draws.{step_end, draws_from, load_of, StepsFit}
use Rattle.resource_table.specs.Resources.{draws_of}
use Rattle.resource_table.proofs.Steps.{cycles_from_steps, steps_from_cycles, draws_before, draws_after, draws_at, step_end-le}
use Rattle.common_lemmas.proofs.Lists.{all_from}

-- every placed test lasts a cycle
pub lasts_at : (t : TableValue) → IsSoundTable t → (i : ℕ) (p : Placement) → slice_get t.placed i ≡ Some p → 1 ≤ cycles_of t.job p.test
lasts_at t sound i p at = (sound.job.tests p.test no_test (sound.placed i p at).in_job).lasts

-- ---- numbers

pub last_small : (t : TableValue) → IsSoundTable t → last_end t.job t.placed ≤ 10 ^ 18
last_small t sound = greatest-least (end_of t.job) (10 ^ 18) t.placed (λ i p at. (sound.placed i p at).ends)

pub cycles_small : (job : JobValue) (test : ℕ) → IsSoundJob job → test < length job.tests → cycles_of job test ≤ 10 ^ 18
cycles_small job test sound inside = omega (arith, get_or-le-sum_by (λ (t : TestValue). t.cycles) job.tests test no_test inside, sound.short)

-- ---- power

drawn_at : (start length' : ℕ) (steps : List (ℕ × ℕ)) → Grow 0 steps → (power : ℕ) × (slice_get steps 0 ≡ Some (0, power)) → (c : ℕ) →
    load_of (draws_from start length' steps) c ≡ (if nat_le start c && nat_lt c (start + length') then step_power (c - start) 0 steps else 0)
drawn_at start length' [] grow begins c = absurd (let b = begins.1 in cc)
drawn_at start length' (s ∷ next) grow begins c =
    let first : s ≡ (0, begins.0) = let b = begins.1 in cc in
    let zero' = ap (λ (v : ℕ × ℕ). v.0) first in
    elim (cases_lt c start) [
      | inl before ↦ rw (lt-leb start c before) (draws_before start length' 0 c (s ∷ next) grow (omega arith))
      | inr begun ↦ elim (cases_lt c (start + length')) [
        | inr over ↦ rw (le-ltb c (start + length') over, and_right (nat_le start c) false refl) (draws_after start length' c (s ∷ next) over)
        | inl active ↦
            let r = c - start in
            let c_is : start + r ≡ c = omega arith in
            rw (le-leb start c begun, lt-ltb c (start + length') active) (rw c_is at (draws_at start length' 0 s next grow r 0 (omega arith) (omega arith)))
      ]
    ]

-- the draws of the placed tests take their power
pub load_is_power : (job : JobValue) (placed : List Placement) → IsSoundJob job → ((i : ℕ) (p : Placement) → slice_get placed i ≡ Some p → p.test < length job.tests) → (c : ℕ) →
    load_of (flat_map (draws_of job) placed) c ≡ power_at job placed c
load_is_power job [] sound inside c = refl
load_is_power job (p ∷ placed) sound inside c =
    let test = sound.tests p.test no_test (inside 0 p refl) in
    let here : load_of (draws_of job p) c ≡ drawn job c p = drawn_at p.start (cycles_of job p.test) (test_at job p.test).steps test.grows test.begins c in
    let rest : load_of (flat_map (draws_of job) placed) c ≡ power_at job placed c = load_is_power job placed sound (λ i q at. inside (suc i) q at) c in
    let split : load_of (flat_map (draws_of job) (p ∷ placed)) c ≡ load_of (draws_of job p) c + load_of (flat_map (draws_of job) placed) c = sum_by-append _ (draws_of job p) (flat_map (draws_of job) placed) in
    omega (arith, sum_by-cons (drawn job c) p placed, here, rest, split)

draws_end : (start length' : ℕ) (steps : List (ℕ × ℕ)) (i : ℕ) (d : Draw) → slice_get (draws_from start length' steps) i ≡ Some d → d.to ≤ start + length'
draws_end start length' [] i d at = absurd cc
draws_end start length' (s ∷ next) zero d at =
    let same : (let one : Draw = record { from = start + s.0; to = start + step_end length' next; power = s.1 } in one) ≡ d = cc in
    subst (λ (v : Draw). v.to ≤ start + length') same (let h = step_end-le length' next in omega arith)
draws_end start length' (s ∷ next) (suc i) d at = draws_end start length' next i d at

pub draws_ended : (job : JobValue) (placed : List Placement) → All (λ (d : Draw). d.to ≤ last_end job placed) (flat_map (draws_of job) placed)
draws_ended job placed = all_from (λ (d : Draw). d.to ≤ last_end job placed) (flat_map (draws_of job) placed) each
  where
    each : (i : ℕ) (d : Draw) → slice_get (flat_map (draws_of job) placed) i ≡ Some d → d.to ≤ last_end job placed
    each i d at =
        let r = from_flat_map (draws_of job) placed i d at in
        let end = draws_end r.1.start (cycles_of job r.1.test) (test_at job r.1.test).steps r.2 d r.4 in
        let last = le-greatest_at (end_of job) placed r.0 r.1 r.3 in
        omega arith

module _ (load power : ℕ → ℕ) (same : ((c : ℕ) → load c ≡ power c)) (most start length' : ℕ) where
  -- the limit, step by step and cycle by cycle
  steps_within : (steps : List (ℕ × ℕ)) → Grow 0 steps → ((c : ℕ) → start ≤ c → c < start + length' → power c + step_power (c - start) 0 steps ≤ most) →
      StepsFit load most start length' steps
  steps_within [] grow fit = tt
  steps_within (s ∷ next) grow fit =
      steps_from_cycles load most start length' 0 0 s next grow (λ r h lt.
      let h : power (start + r) + step_power (start + r - start) 0 (s ∷ next) ≤ most = fit (start + r) (omega arith) (omega arith) in
      let r_is : start + r - start ≡ r = omega arith in
      let h' : power (start + r) + step_power r 0 (s ∷ next) ≤ most = subst (λ (v : ℕ). power (start + r) + step_power v 0 (s ∷ next) ≤ most) r_is h in
      omega (arith, same (start + r), h'))

  cycles_within : (steps : List (ℕ × ℕ)) → Grow 0 steps → (power' : ℕ) × (slice_get steps 0 ≡ Some (0, power')) → StepsFit load most start length' steps → (c : ℕ) → start ≤ c →
      c < start + length' → power c + step_power (c - start) 0 steps ≤ most
  cycles_within [] grow begins fit c from to = absurd (let b = begins.1 in cc)
  cycles_within (s ∷ next) grow begins fit c from to =
      let first : s ≡ (0, begins.0) = let b = begins.1 in cc in
      let zero' = ap (λ (v : ℕ × ℕ). v.0) first in
      let r = c - start in
      let c_is : start + r ≡ c = omega arith in
      let here = cycles_from_steps load most start length' 0 s next grow fit r 0 (omega arith) (omega arith) in
      let here' = rw c_is at here in
      omega (arith, same c, here')

module _ (t : TableValue) (test start limit : ℕ) (sound : IsSoundTable t) (inside : test < length t.job.tests) (is : t.job.power ≡ Some limit) where
  pub steps_from_within : StaysWithin t.job t.placed test start →
      StepsFit (load_of (flat_map (draws_of t.job) t.placed)) limit start (cycles_of t.job test) (test_at t.job test).steps
  steps_from_within within =
      let one = sound.job.tests test no_test inside in
      steps_within (load_of (flat_map (draws_of t.job) t.placed)) (power_at t.job t.placed) (load_is_power t.job t.placed sound.job (λ i p at. (sound.placed i p at).in_job)) limit start (cycles_of t.job test) (test_at t.job test).steps one.grows
      (λ c from to. rw is at (within c (from, to)))

  pub within_from_steps : StepsFit (load_of (flat_map (draws_of t.job) t.placed)) limit start (cycles_of t.job test) (test_at t.job test).steps →
      StaysWithin t.job t.placed test start
  within_from_steps fit c active =
      let one = sound.job.tests test no_test inside in
      rw is (cycles_within (load_of (flat_map (draws_of t.job) t.placed)) (power_at t.job t.placed) (load_is_power t.job t.placed sound.job (λ i p at. (sound.placed i p at).in_job)) limit start (cycles_of t.job test) (test_at t.job test).steps one.grows one.begins fit c active.0 active.1)

pub within_without_limit : (job : JobValue) (placed : List Placement) (test start : ℕ) → job.power ≡ None → StaysWithin job placed test start
within_without_limit job placed test start none c active = subst (λ o. IfSome o (λ most. power_at job placed c + power_of job test (c - start) ≤ most)) (sym none) tt
