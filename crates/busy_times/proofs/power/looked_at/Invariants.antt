use Rattle.std.proofs.Common.{◌<◌, ◌≤◌, ℕ}
use Rattle.busy_times.specs.{Draws.StepFits, Profiles.IsEndedProfile}
use Rattle.busy_times.proofs.power.looked_at.Given as goal

-- the steps before fit
abbrev pub invariant-loop-place : goal.invariant-loop-place
invariant-loop-place l = record {
  before : (load : ℕ → ℕ) → IsEndedProfile load l.points l.last → (k : ℕ) → l.from ≤ k → k < l.place → StepFits load l.test.limit l.start l.test.length k l.test.steps.now;
}
