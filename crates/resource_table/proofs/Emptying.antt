-- The timelines of a table whose times are all taken out.
use Rattle.std.proofs.Common.{◌≡◌, ℕ, ◌<◌, Option, None, Some, List, length, arith, refl, sym, ap, ◌∙◌, IfSome}
use Rattle.std.proofs.lemmas.Option.{slice_get_within, get_or_from_slice_get}
use Rattle.busy_times.specs.declared.timelines.{Timeline.Timeline, Timelines.Timelines}
use Rattle.busy_times.specs.BusyTimes.{AreCleared, AreAllCleared}
use Rattle.resource_table.specs.declared.Placement.{Placement}
use Rattle.resource_table.specs.declared.empty_times.Kind.{Kind, TheVariants.Bus, TheVariants.Own, TheVariants.Children}
use Rattle.resource_table.specs.Jobs.{JobValue, no_test}
use Rattle.resource_table.specs.PlacedTimes.{timeline_of, AreTimelines, AreTimes, AreEmpty, AreEmptyTimes}
use Rattle.common_lemmas.proofs.Lists.{all_from}

emptied_kind : (kind : Kind) (job : JobValue) (placed : List Placement) (old new : List Timeline) → AreTimelines job placed kind old → AreCleared old new → AreEmpty kind job.tests new
emptied_kind kind job placed old new are cleared = record {
  many = (let many = are.many in let long = cleared.long in omega (arith, many, long));
  reach = all_from (λ t. IfSome (timeline_of kind t) (λ k. k < length new)) job.tests (λ i t at.
      within (timeline_of kind t) (λ k is. reached k (are.reach i k (slice_get_within job.tests i t at) (ap (timeline_of kind) (get_or_from_slice_get job.tests i t no_test at) ∙ is))));
  empty = cleared.empty;
  room = (λ k line at. let was = cleared.room k line at in let each = are.each k was.0 was.1 in let room = each.room in omega (arith, room, was.2));
}
  where
    reached : (k : ℕ) → k < length old → k < length new
    reached k lt = let long = cleared.long in omega (arith, lt, long)

    within : (o : Option ℕ) → ((k : ℕ) → o ≡ Some k → k < length new) → IfSome o (λ k. k < length new)
    within None h = tt
    within (Some k) h = h k refl

pub emptied : (job : JobValue) (placed : List Placement) (old new : Timelines) → AreTimes job placed old → AreAllCleared old new → AreEmptyTimes job.tests new
emptied job placed old new are cleared = record {
  buses = emptied_kind Bus job placed old.buses.items new.buses.items are.buses cleared.buses;
  modules = emptied_kind Own job placed old.modules.items new.modules.items are.modules cleared.modules;
  children = emptied_kind Children job placed old.children.items new.children.items are.children cleared.children;
  latest = cleared.latest ∙ are.latest.long ∙ sym cleared.children.long;
  before = cleared.before;
  room = (let most = are.latest.room in let room = cleared.room in omega (arith, most, room));
}
