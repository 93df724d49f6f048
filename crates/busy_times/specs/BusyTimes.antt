-- Busy times, kept apart by what they take.
use Rattle.std.specs.Prelude.{◌≡◌, ℕ, ◌+◌, ◌<◌, ◌≤◌, ◌⊎◌, Option, Some, List, [], length, slice_get, IfSome, vec_capacity}
use Rattle.std.specs.List.{All, AllWithin, insert, remove}
use Rattle.std.specs.List.Sorted.{IsNonDecreasingBy}
use Rattle.busy_times.specs.declared.timelines.Span.{Span}
use Rattle.busy_times.specs.declared.timelines.Timeline.{Timeline}
use Rattle.busy_times.specs.declared.timelines.Timelines.{Timelines}
use Rattle.busy_times.specs.declared.timelines.BusyPlaces.{BusyPlaces}
use Rattle.busy_times.specs.LatestEnds.{IsLater, IsBack}

-- a test of `length` cycles from a start doesn't meet this time
abbrev pub IsClear : (length start : ℕ) → Span → Type 0
IsClear length start s = (s.to ≤ start) ⊎ (start + length ≤ s.from)

-- it meets nothing of the timeline at a place, where there is one
abbrev pub AreFree : List Timeline → Option ℕ → (length start : ℕ) → Type 0
AreFree lines place length start =
    (k : ℕ) (line : Timeline) → place ≡ Some k → slice_get lines k ≡ Some line → All (IsClear length start) line.spans.items

-- a time stands where none before it starts as late as it does, and none after it earlier
pub record IsPut (span : Span) (old new : List Span) : Type 0 where
  pub place : ℕ
  pub inside : place ≤ length old
  pub before : AllWithin (λ (s : Span). s.from < span.from) old 0 place
  pub after : AllWithin (λ (s : Span). span.from ≤ s.from) old place (length old)
  pub is : new ≡ insert old place span

-- a time is gone
pub record IsTaken (span : Span) (old new : List Span) : Type 0 where
  pub place : ℕ
  pub there : slice_get old place ≡ Some span
  pub is : new ≡ remove old place

-- the timeline at a place has room for a time
pub record MayFill (place : Option ℕ) (lines : List Timeline) : Type 0 where
  pub inside : IfSome place (λ k. k < length lines)
  pub starts : (k : ℕ) (line : Timeline) → place ≡ Some k → slice_get lines k ≡ Some line →
      IsNonDecreasingBy (λ (s : Span). s.from) line.spans.items
  pub room : (k : ℕ) (line : Timeline) → place ≡ Some k → slice_get lines k ≡ Some line → length line.spans.items < vec_capacity line.spans

-- the timeline at a place has one time more
pub record ArePut (place : Option ℕ) (span : Span) (old new : List Timeline) : Type 0 where
  pub long : length new ≡ length old
  pub others : (k : ℕ) (line : Timeline) → (place ≡ Some k → ⊥) → slice_get new k ≡ Some line → slice_get old k ≡ Some line
  pub here : (k : ℕ) (line : Timeline) → place ≡ Some k → slice_get new k ≡ Some line →
      (was : Timeline) × (slice_get old k ≡ Some was) × IsPut span was.spans.items line.spans.items
      × (vec_capacity line.spans ≡ vec_capacity was.spans)

-- the timeline at a place has this time
pub record MayClear (place : Option ℕ) (span : Span) (lines : List Timeline) : Type 0 where
  pub inside : IfSome place (λ k. k < length lines)
  pub starts : (k : ℕ) (line : Timeline) → place ≡ Some k → slice_get lines k ≡ Some line →
      IsNonDecreasingBy (λ (s : Span). s.from) line.spans.items
  pub there : (k : ℕ) (line : Timeline) → place ≡ Some k → slice_get lines k ≡ Some line →
      (i : ℕ) × (slice_get line.spans.items i ≡ Some span)

-- the timeline at a place has one time less
pub record AreTaken (place : Option ℕ) (span : Span) (old new : List Timeline) : Type 0 where
  pub long : length new ≡ length old
  pub others : (k : ℕ) (line : Timeline) → (place ≡ Some k → ⊥) → slice_get new k ≡ Some line → slice_get old k ≡ Some line
  pub here : (k : ℕ) (line : Timeline) → place ≡ Some k → slice_get new k ≡ Some line →
      (was : Timeline) × (slice_get old k ≡ Some was) × IsTaken span was.spans.items line.spans.items
      × (vec_capacity line.spans ≡ vec_capacity was.spans)

-- ---- all timelines

-- a test of `length` cycles from a start meets nothing on its bus, in its module, in that one's direct parent and in its direct children
pub record IsFree (times : Timelines) (places : BusyPlaces) (length start : ℕ) : Type 0 where
  pub bus : AreFree times.buses.items places.bus length start
  pub own : AreFree times.modules.items (Some places.own) length start
  pub parent : AreFree times.modules.items places.parent length start
  pub children : AreFree times.children.items (Some places.own) length start

-- the timelines can be searched up to a last end
pub record AreOrdered (times : Timelines) (last : ℕ) : Type 0 where
  pub buses : (k : ℕ) (line : Timeline) → slice_get times.buses.items k ≡ Some line →
      IsNonDecreasingBy (λ (s : Span). s.from) line.spans.items × IsNonDecreasingBy (λ (s : Span). s.to) line.spans.items
      × All (λ (s : Span). s.to ≤ last) line.spans.items
  pub modules : (k : ℕ) (line : Timeline) → slice_get times.modules.items k ≡ Some line →
      IsNonDecreasingBy (λ (s : Span). s.from) line.spans.items × IsNonDecreasingBy (λ (s : Span). s.to) line.spans.items
      × All (λ (s : Span). s.to ≤ last) line.spans.items
  pub children : (k : ℕ) (line : Timeline) → slice_get times.children.items k ≡ Some line →
      IsNonDecreasingBy (λ (s : Span). s.from) line.spans.items × All (λ (s : Span). s.to ≤ last) line.spans.items
  -- the children of a module end by what stands at its place
  pub latest : (k end : ℕ) (line : Timeline) → slice_get times.children.items k ≡ Some line →
      slice_get times.latest.ends.items k ≡ Some end → All (λ (s : Span). s.to ≤ end) line.spans.items

-- room for the time of one test more
pub record MayAdd (times : Timelines) (places : BusyPlaces) : Type 0 where
  pub bus : MayFill places.bus times.buses.items
  pub own : MayFill (Some places.own) times.modules.items
  pub parent : MayFill places.parent times.children.items
  pub latest : IfSome places.parent (λ k. k < length times.latest.ends.items)
  pub room : length times.latest.before.items < vec_capacity times.latest.before

-- the time of one test more
pub record IsAdded (places : BusyPlaces) (span : Span) (old new : Timelines) : Type 0 where
  pub bus : ArePut places.bus span old.buses.items new.buses.items
  pub own : ArePut (Some places.own) span old.modules.items new.modules.items
  pub parent : ArePut places.parent span old.children.items new.children.items
  pub latest : IsLater places.parent span.to old.latest new.latest

-- the time of a test is there
pub record MayRemove (times : Timelines) (places : BusyPlaces) (span : Span) : Type 0 where
  pub bus : MayClear places.bus span times.buses.items
  pub own : MayClear (Some places.own) span times.modules.items
  pub parent : MayClear places.parent span times.children.items
  pub latest : IfSome places.parent (λ k. k < length times.latest.ends.items)
  pub some : 1 ≤ length times.latest.before.items

-- the time of one test less
pub record IsRemoved (places : BusyPlaces) (span : Span) (old new : Timelines) : Type 0 where
  pub bus : AreTaken places.bus span old.buses.items new.buses.items
  pub own : AreTaken (Some places.own) span old.modules.items new.modules.items
  pub parent : AreTaken places.parent span old.children.items new.children.items
  pub latest : IsBack places.parent old.latest new.latest

-- timelines without times, with the room that they had
pub record AreCleared (old new : List Timeline) : Type 0 where
  pub long : length new ≡ length old
  pub empty : (k : ℕ) (line : Timeline) → slice_get new k ≡ Some line → line.spans.items ≡ []
  pub room : (k : ℕ) (line : Timeline) → slice_get new k ≡ Some line →
      (was : Timeline) × (slice_get old k ≡ Some was) × (vec_capacity line.spans ≡ vec_capacity was.spans)

-- timelines of all kinds without times, with the room that they had
pub record AreAllCleared (old new : Timelines) : Type 0 where
  pub buses : AreCleared old.buses.items new.buses.items
  pub modules : AreCleared old.modules.items new.modules.items
  pub children : AreCleared old.children.items new.children.items
  pub latest : length new.latest.ends.items ≡ length old.latest.ends.items
  pub before : new.latest.before.items ≡ []
  pub room : vec_capacity new.latest.before ≡ vec_capacity old.latest.before
