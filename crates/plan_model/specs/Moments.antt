-- What a test over the wires does at a cycle, with the captures ahead and behind.
use Rattle.std.specs.Prelude.{◌≡◌, ℕ, ◌+◌, ◌^◌, ◌<◌, ◌≤◌, Bool, false, max, Option, Some, None, List, drop, get_or, slice_get, nat_lt, option_map, if◌then◌else◌}
use Rattle.plan_model.specs.Cells.{Cell, In, in_length}
use Rattle.plan_model.specs.Operations.{Operation, Setup, Shift, Capture, ops_of}
use Rattle.plan_model.specs.Runs.{wanted}
use Rattle.plan_model.specs.declared.moments.NearCapture.{NearCapture}
use Rattle.plan_model.specs.declared.moments.Moment.{Moment}
use Rattle.plan_model.specs.declared.moments.Moment.TheVariants as moment
use Rattle.plan_model.specs.declared.moments.Phases.{Phases}

-- the operations of a test with these phases
abbrev pub phase_ops : Phases → List Operation
phase_ops p = ops_of p.setup p.si p.so p.patterns

-- the capture that is some Shifts away
abbrev pub near_capture : NearCapture → ℕ × ℕ
near_capture t = (t.shifts, t.pattern)

abbrev pub moment_operation : Moment → Operation
moment_operation moment.Setup = Setup
moment_operation (moment.Shift a b) = Shift
moment_operation (moment.Capture k) = Capture k

-- the next capture, where it lies ahead of Shifts alone, and the one before
abbrev pub moment_ahead : Moment → Option (ℕ × ℕ)
moment_ahead moment.Setup = None
moment_ahead (moment.Shift a b) = option_map near_capture a
moment_ahead (moment.Capture k) = None

abbrev pub moment_behind : Moment → Option (ℕ × ℕ)
moment_behind moment.Setup = None
moment_behind (moment.Shift a b) = option_map near_capture b
moment_behind (moment.Capture k) = None

-- the bit that a chain wants at a Shift, given the number of Shifts between it and the next capture, and the pattern of that
abbrev pub wanted_by : (stimulus : ℕ → Cell → Bool) → List Cell → Option (ℕ × ℕ) → Bool
wanted_by stimulus cells None = false
wanted_by stimulus cells (Some a) = if nat_lt a.0 (in_length cells) then stimulus a.1 (get_or cells a.0 (In 0)) else false

-- The moment is operation `n`: it wants what lies ahead, and behind it is the capture that is read, if there is one.
pub record IsMoment (p : Phases) (n : ℕ) (m : Moment) : Type 0 where
  pub operation : slice_get (phase_ops p) n ≡ Some (moment_operation m)
  pub wants : (stimulus : ℕ → Cell → Bool) (cells : List Cell) →
      wanted stimulus cells (drop n (phase_ops p)) ≡ wanted_by stimulus cells (moment_ahead m)
  pub behind : (s k : ℕ) → moment_behind m ≡ Some (s, k) → (q : ℕ) × (slice_get (phase_ops p) q ≡ Some (Capture k)) × (n ≡ q + 1 + s)
  pub every : (s k q : ℕ) → slice_get (phase_ops p) q ≡ Some (Capture k) → n ≡ q + 1 + s → s < p.so → moment_behind m ≡ Some (s, k)

-- phases whose lengths fit in a machine's numbers
pub record ArePhases (p : Phases) : Type 0 where
  pub some : 1 ≤ p.patterns
  pub few : p.patterns ≤ 10 ^ 18
  pub fit : p.setup + (1 + max p.si p.so) + (p.si + p.so) ≤ 10 ^ 19
