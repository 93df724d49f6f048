-- What a table keeps: its resources are those that would be built from its placed tests, and there is room for all.
use Rattle.std.specs.Prelude.{◌≡◌, ℕ, ◌<◌, ◌+◌, ◌≤◌, Option, None, List, [], take, length, slice_index_or, vec_capacity, IfSome}
use Rattle.std.specs.List.{sum_by, flat_map}
use Rattle.std.specs.Global.{Vec}
use Rattle.smallvec.specs.SmallVec.{SmallVec}
use Rattle.resource_table.specs.declared.Placement.{Placement}
use Rattle.busy_times.specs.declared.power.Draw.{Draw}
use Rattle.busy_times.specs.declared.points.Point.{Point}
use Rattle.resource_table.specs.declared.history.History.{History}
use Rattle.resource_table.specs.declared.history.Note.{Note}
use Rattle.resource_table.specs.Histories.{no_note, past_of, IsHistory}
use Rattle.resource_table.specs.Jobs.{TestValue, JobValue}
use Rattle.resource_table.specs.Schedules.{last_end, Fits, IsEarliest, IsSoundTable}
use Rattle.resource_table.specs.Resources.{draws_of, marks_of, end_in}
use Rattle.busy_times.specs.Profiles.{ArePoints}

pub record IsKept (job : JobValue) (trail : SmallVec Placement) (ends : Vec (Option ℕ)) (lasts : Vec ℕ) (draws : Vec Draw) : Type 0 where
  pub sound : IsSoundTable (record { job = job; placed = trail.items })
  pub ends_long : length ends.items ≡ length job.tests
  pub ends_are : (test : ℕ) → test < length job.tests → slice_index_or ends.items test None ≡ end_in job trail.items test
  -- with each placed test, the end of the one up to it that ends last
  pub lasts_long : length lasts.items ≡ length trail.items
  pub lasts_are : (i : ℕ) → i < length trail.items → slice_index_or lasts.items i 0 ≡ last_end job (take (i + 1) trail.items)
  pub draws_are : draws.items ≡ flat_map (draws_of job) trail.items
  pub trail_room : length job.tests ≤ trail.capacity
  pub lasts_room : length job.tests ≤ vec_capacity lasts
  pub draws_room : sum_by (λ (t : TestValue). length t.steps) job.tests ≤ vec_capacity draws

-- under a limit on power the profile of the draws, and room for that of all tests
pub record IsProfiled (job : JobValue) (trail : SmallVec Placement) (draws : Vec Draw) (points : Vec Point) : Type 0 where
  pub are : IfSome job.power (λ _. ArePoints draws.items (flat_map (marks_of job) trail.items) points.items)
  pub room : length job.tests + sum_by (λ (t : TestValue). length t.steps) job.tests ≤ vec_capacity points

-- what is noted of each test: it fits at no start before; and where the note is of these placed tests, that is its least start
pub record AreNotes (job : JobValue) (placed : List Placement) (notes : List Note) : Type 0 where
  pub bound : (test start : ℕ) → test < length job.tests → Fits job placed test start → (slice_index_or notes test no_note).start ≤ start
  pub depth : (test : ℕ) → (slice_index_or notes test no_note).depth ≤ length placed + 1
  pub found : (test : ℕ) → test < length job.tests → (slice_index_or notes test no_note).depth ≡ length placed + 1 →
      IsEarliest job placed test (slice_index_or notes test no_note).start

-- notes beside the placed tests, and those that there were before each was placed
pub record IsBounded (job : JobValue) (placed : List Placement) (bounds : History) : Type 0 where
  pub history : IsHistory bounds
  pub long : length bounds.values.items ≡ length job.tests
  pub now : AreNotes job placed bounds.values.items
  pub levels : length (past_of bounds) ≡ length placed
  pub past : (i : ℕ) → i < length placed → AreNotes job (take i placed) (slice_index_or (past_of bounds) i [])
  pub room : length job.tests ≤ vec_capacity bounds.marks
