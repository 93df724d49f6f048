-- The busy times of the placed tests.
use Rattle.std.specs.Prelude.{◌≡◌, ℕ, ◌<◌, ◌≤◌, Bool, true, false, Option, Some, List, [], length, slice_get, if◌then◌else◌, IfSome, vec_capacity}
use Rattle.std.specs.List.{All, sum_by}
use Rattle.std.specs.List.Sorted.{IsNonDecreasingBy}
use Rattle.plan_model.specs.declared.TheConstants.{WIRES_MOST}
use Rattle.busy_times.specs.declared.timelines.Span.{Span}
use Rattle.busy_times.specs.declared.timelines.Timeline.{Timeline}
use Rattle.busy_times.specs.declared.timelines.Timelines.{Timelines}
use Rattle.busy_times.specs.declared.timelines.BusyPlaces.{BusyPlaces}
use Rattle.resource_table.specs.declared.Placement.{Placement}
use Rattle.resource_table.specs.declared.empty_times.Kind.{Kind}
use Rattle.resource_table.specs.declared.empty_times.Kind.TheVariants.{Bus, Own, Children}
use Rattle.resource_table.specs.Jobs.{TestValue, JobValue, test_at}
use Rattle.resource_table.specs.LatestEnds.{AreLatestEnds}
use Rattle.resource_table.specs.Schedules.{is_at, end_of}

-- what a test keeps busy
abbrev pub busy_places : TestValue → BusyPlaces
busy_places t = record { bus = t.bus; own = t.place; parent = t.parent }

-- which timeline of a kind a test takes: by the place of its bus, of its module, of that one's direct parent
abbrev pub timeline_of : Kind → TestValue → Option ℕ
timeline_of Bus t = t.bus
timeline_of Own t = Some t.place
timeline_of Children t = t.parent

-- no two tests that take such a timeline are active together
abbrev pub is_alone : Kind → Bool
is_alone Bus = true
is_alone Own = true
is_alone Children = false

abbrev pub takes : Kind → ℕ → TestValue → Bool
takes kind k t = is_at (timeline_of kind t) k

abbrev pub span_of : JobValue → Placement → Span
span_of job p = record { from = p.start; to = end_of job p }

-- the part of a placed test in a sum over a timeline
abbrev pub part_in : JobValue → Kind → ℕ → (Span → ℕ) → Placement → ℕ
part_in job kind k f p = if takes kind k (test_at job p.test) then f (span_of job p) else 0

-- how many tests a timeline has room for: that of a bus for all, since any test may come to go over it, another one for those
-- that take it
abbrev pub room_of : Kind → ℕ → List TestValue → ℕ
room_of Bus k tests = length tests
room_of Own k tests = sum_by (λ (t : TestValue). if takes Own k t then 1 else 0) tests
room_of Children k tests = sum_by (λ (t : TestValue). if takes Children k t then 1 else 0) tests

-- how many timelines there are of a kind at least: one for each bus that a chip may have
abbrev pub least_of : Kind → ℕ
least_of Bus = WIRES_MOST
least_of Own = 0
least_of Children = 0

-- the times of the placed tests that take a timeline, in the order of their starts, with room for those of all tests
pub record IsTimeline (job : JobValue) (placed : List Placement) (kind : Kind) (k : ℕ) (line : Timeline) : Type 0 where
  pub starts : IsNonDecreasingBy (λ (s : Span). s.from) line.spans.items
  pub ends : is_alone kind ≡ true → IsNonDecreasingBy (λ (s : Span). s.to) line.spans.items
  -- whatever is summed up over it is summed up over the tests
  pub sums : (f : Span → ℕ) → sum_by f line.spans.items ≡ sum_by (part_in job kind k f) placed
  pub room : room_of kind k job.tests ≤ vec_capacity line.spans

-- all timelines of a kind
pub record AreTimelines (job : JobValue) (placed : List Placement) (kind : Kind) (lines : List Timeline) : Type 0 where
  pub many : least_of kind ≤ length lines
  pub reach : (test k : ℕ) → test < length job.tests → timeline_of kind (test_at job test) ≡ Some k → k < length lines
  pub each : (k : ℕ) (line : Timeline) → slice_get lines k ≡ Some line → IsTimeline job placed kind k line

-- the timelines of all kinds
pub record AreTimes (job : JobValue) (placed : List Placement) (times : Timelines) : Type 0 where
  pub buses : AreTimelines job placed Bus times.buses.items
  pub modules : AreTimelines job placed Own times.modules.items
  pub children : AreTimelines job placed Children times.children.items
  pub latest : AreLatestEnds job placed (length times.children.items) times.latest

-- timelines of a kind without times, with room for those of all tests
pub record AreEmpty (kind : Kind) (tests : List TestValue) (lines : List Timeline) : Type 0 where
  pub many : least_of kind ≤ length lines
  pub reach : All (λ (t : TestValue). IfSome (timeline_of kind t) (λ k. k < length lines)) tests
  pub empty : (k : ℕ) (line : Timeline) → slice_get lines k ≡ Some line → line.spans.items ≡ []
  pub room : (k : ℕ) (line : Timeline) → slice_get lines k ≡ Some line → room_of kind k tests ≤ vec_capacity line.spans

-- timelines of all kinds without times
pub record AreEmptyTimes (tests : List TestValue) (times : Timelines) : Type 0 where
  pub buses : AreEmpty Bus tests times.buses.items
  pub modules : AreEmpty Own tests times.modules.items
  pub children : AreEmpty Children tests times.children.items
  pub latest : length times.latest.ends.items ≡ length times.children.items
  pub before : times.latest.before.items ≡ []
  pub room : length tests ≤ vec_capacity times.latest.before
