use Rattle.std.proofs.Common.{ℕ, ◌-◌, ◌<◌, ◌≤◌, length}
use Rattle.busy_times.specs.Draws.{StepsFit, StepFits}
use Rattle.busy_times.specs.Profiles.{IsEndedProfile}
use Rattle.busy_times.proofs.power.after_steps.Given as goal

-- the step at the place fits, where there is one
abbrev pub invariant-starts : goal.invariant-starts
invariant-starts l = record {
  at : l.at ≤ length l.steps;
  from : l.start ≤ l.found;
  most : l.found ≤ l.last;
  here : l.at < length l.steps → (load : ℕ → ℕ) → IsEndedProfile load l.points l.last → StepFits load l.limit l.found l.length l.at l.steps;
  least : (load : ℕ → ℕ) → IsEndedProfile load l.points l.last → (other : ℕ) → l.start ≤ other → StepsFit load l.limit other l.length l.steps → l.found ≤ other;
}

abbrev pub decreases-starts : goal.decreases-starts
decreases-starts l = l.last - l.found
