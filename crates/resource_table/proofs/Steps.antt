-- The power of a test, step by step.
use Rattle.std.proofs.Common.{◌≡◌, ℕ, ◌+◌, ◌-◌, ◌<◌, ◌≤◌, inl, inr, List, [], ◌∷◌, length, arith, refl, ◌∙◌}
use Rattle.std.proofs.lemmas.Bool.{cases_lt, le-leb, lt-leb}
use Rattle.std.proofs.lemmas.List.Sums.{sum_by-cons}
use Rattle.plan_model.specs.{Plans.step_power, SoundLimits.Grow}
use Rattle.busy_times.specs.declared.power.Draw.{Draw}
use Rattle.busy_times.proofs.Profiles.{none_taken, all_taken}
use Rattle.busy_times.specs.Draws.{taken_by, load_of, step_end, draws_from, StepsFit}

-- before the first step nothing changes
pub step_late : (from r now : ℕ) (steps : List (ℕ × ℕ)) → Grow from steps → r < from → step_power r now steps ≡ now
step_late from r now [] grow h = refl
step_late from r now (s ∷ steps) grow h =
    let later : r < s.0 = omega (arith, grow.0) in
    rw (lt-leb s.0 r later) (step_late (s.0 + 1) r now steps grow.1 (omega arith))

module _ (r now : ℕ) where
  -- a step that has begun
  pub step_begun : (s : ℕ × ℕ) (steps : List (ℕ × ℕ)) → s.0 ≤ r → step_power r now (s ∷ steps) ≡ step_power r s.1 steps
  step_begun s steps h = rw (le-leb s.0 r h) refl

  -- it draws its power until it ends
  pub step_holds : (length : ℕ) (s : ℕ × ℕ) (next : List (ℕ × ℕ)) → Grow (s.0 + 1) next → s.0 ≤ r → r < step_end length next → step_power r now (s ∷ next) ≡ s.1
  step_holds length s [] grow h lt = step_begun s [] h
  step_holds length s (t ∷ next) grow h lt = step_begun s (t ∷ next) h ∙ step_late t.0 r s.1 (t ∷ next) (omega arith, grow.1) (omega arith)

pub step_end-le : (length : ℕ) (next : List (ℕ × ℕ)) → step_end length next ≤ length
step_end-le length [] = omega arith
step_end-le length (t ∷ next) = omega arith

-- ---- steps that fit, and the test at each of its cycles

module _ (load : ℕ → ℕ) (most start length : ℕ) where
  pub cycles_from_steps : (from : ℕ) (s : ℕ × ℕ) (next : List (ℕ × ℕ)) → Grow from (s ∷ next) → StepsFit load most start length (s ∷ next) → (r now : ℕ) → s.0 ≤ r → r < length →
      load (start + r) + step_power r now (s ∷ next) ≤ most
  cycles_from_steps from s [] grow fit r now h lt =
      rw (step_begun r now s [] h) (fit.0 (start + r) (omega arith) (omega arith))
  cycles_from_steps from s (t ∷ next) grow fit r now h lt = elim (cases_lt r t.0) [
    | inl early ↦ rw (step_holds r now length s (t ∷ next) grow.1 h (omega arith)) (fit.0 (start + r) (omega arith) (omega arith))
    | inr late ↦ rw (step_begun r now s (t ∷ next) h) (cycles_from_steps (s.0 + 1) t next grow.1 fit.1 r s.1 late lt)
  ]

  window : (now : ℕ) (s : ℕ × ℕ) (next : List (ℕ × ℕ)) → Grow (s.0 + 1) next → ((r : ℕ) → s.0 ≤ r → r < length → load (start + r) + step_power r now (s ∷ next) ≤ most) →
      (c : ℕ) → start + s.0 ≤ c → c < start + step_end length next → load c + s.1 ≤ most
  window now s next grow fit c h lt =
      let r = c - start in
      let c_is : start + r ≡ c = omega arith in
      let end = step_end-le length next in
      let total = rw (step_holds r now length s next grow (omega arith) (omega arith)) at (fit r (omega arith) (omega arith)) in
      rw c_is at total

  pub steps_from_cycles : (from now : ℕ) (s : ℕ × ℕ) (next : List (ℕ × ℕ)) → Grow from (s ∷ next) →
      ((r : ℕ) → s.0 ≤ r → r < length → load (start + r) + step_power r now (s ∷ next) ≤ most) → StepsFit load most start length (s ∷ next)
  steps_from_cycles from now s [] grow fit = (window now s [] grow.1 fit, tt)
  steps_from_cycles from now s (t ∷ next) grow fit = (
    window now s (t ∷ next) grow.1 fit,
    steps_from_cycles (s.0 + 1) s.1 t next grow.1 (λ r h lt. let early : s.0 ≤ r = omega (arith, grow.1.0) in rw (step_begun r now s (t ∷ next) early) at (fit r early lt)),
  )

-- ---- the draws of a test

module _ (start length : ℕ) where
  -- nothing before the first step
  pub draws_before : (from c : ℕ) (steps : List (ℕ × ℕ)) → Grow from steps → c < start + from → load_of (draws_from start length steps) c ≡ 0
  draws_before from c [] grow h = refl
  draws_before from c (s ∷ next) grow h =
      let later : c < start + s.0 = omega (arith, grow.0) in
      let d : Draw = record { from = start + s.0; to = start + step_end length next; power = s.1 } in
      let none : taken_by c d ≡ 0 = rw (lt-leb (start + s.0) c later) refl in
      omega (arith, sum_by-cons (taken_by c) d (draws_from start length next), none, draws_before (s.0 + 1) c next grow.1 (omega arith))

  -- and nothing after the test
  pub draws_after : (c : ℕ) (steps : List (ℕ × ℕ)) → start + length ≤ c → load_of (draws_from start length steps) c ≡ 0
  draws_after c [] h = refl
  draws_after c (s ∷ next) h =
      let d : Draw = record { from = start + s.0; to = start + step_end length next; power = s.1 } in
      let end = step_end-le length next in
      omega (arith, sum_by-cons (taken_by c) d (draws_from start length next), none_taken d c (inr (omega arith)), draws_after c next h)

-- in between, the power of the step
pub draws_at : (start length from : ℕ) (s : ℕ × ℕ) (next : List (ℕ × ℕ)) → Grow from (s ∷ next) → (r now : ℕ) → s.0 ≤ r → r < length →
    load_of (draws_from start length (s ∷ next)) (start + r) ≡ step_power r now (s ∷ next)
draws_at start length from s [] grow r now h lt =
    let d : Draw = record { from = start + s.0; to = start + length; power = s.1 } in
    rw (step_begun r now s [] h) (omega (arith, sum_by-cons (taken_by (start + r)) d [], all_taken d (start + r) (omega arith) (omega arith)))
draws_at start length from s (t ∷ next) grow r now h lt =
    let d : Draw = record { from = start + s.0; to = start + step_end length (t ∷ next); power = s.1 } in
    let split = sum_by-cons (taken_by (start + r)) d (draws_from start length (t ∷ next)) in
    elim (cases_lt r t.0) [
      | inl early ↦
          let here = all_taken d (start + r) (omega arith) (omega arith) in
          let none = draws_before start length t.0 (start + r) (t ∷ next) (omega arith, grow.1.1) (omega arith) in
          rw (step_holds r now length s (t ∷ next) grow.1 h (omega arith)) (omega arith)
      | inr late ↦
          let over = none_taken d (start + r) (inr (omega arith)) in
          let rest = draws_at start length (s.0 + 1) t next grow.1 r s.1 late lt in
          rw (step_begun r now s (t ∷ next) h) (omega arith)
    ]
