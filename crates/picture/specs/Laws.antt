-- What a picture is drawn from, and what holds of its rectangles and steps.
use Rattle.std.specs.Prelude.{◌≡◌, ℕ, ◌+◌, ◌≤◌, ◌<◌, ◌≢◌, ◌⊎◌, ◌^◌, Bool, ◌&&◌, not, nat_eq, Some, List, [], length, map, slice_get}
use Rattle.std.specs.List.{filter}
use Rattle.std.specs.List.Sorted.{IsPermutation}
use Rattle.soc_model.specs.Chips.{SocValue}
use Rattle.plan_model.specs.Plans.{LimitsValue, PlanValue, PlannedTest, users}
use Rattle.plan_model.specs.Rules.{IsGood}
use Rattle.plan_model.specs.SoundLimits.{IsSoundLimits}
use Rattle.live_tests.specs.declared.placed.PlacedTest.{PlacedTest}
use Rattle.live_tests.specs.Placed.{placed_of, placed_tests}
use Rattle.picture.specs.declared.Parts.{Parts}
use Rattle.picture.specs.declared.panels.Drawn.{Drawn}
use Rattle.picture.specs.Fills.{band, fill_of}
use Rattle.picture.specs.Panels.{below, wires_panel}
use Rattle.picture.specs.Scale.{mark_step, marks_by}
use Rattle.picture.specs.PictureText.{bottom_of, lanes_of, plan_steps, self_tests}
use Rattle.picture.specs.Rectangles.{between, bus_wires, covers, drawn_over, drawn_test, is_self, is_wired, laned, wired}

-- no two rectangles have a cycle of a row in common: of a wire, or of a lane
abbrev pub AreApart : List Drawn → Type 0
AreApart drawn = (cycle row : ℕ) → length (filter (covers cycle row) drawn) ≤ 1

-- the rectangles are those of the tests over the wires, each once, in their order
abbrev pub AreDrawn : List Drawn → List PlacedTest → Type 0
AreDrawn drawn tests = map drawn_test drawn ≡ filter is_wired tests

-- A cycle of a wire has a rectangle exactly where the run of the plan uses it: at each cycle the rectangles that have a wire are those of
-- the tests that use it, which are active then and have it on their bus, in the order of the chip.
abbrev pub ShowsUse : List Drawn → List PlannedTest → Type 0
ShowsUse drawn tests = (cycle wire : ℕ) → map drawn_test (filter (covers cycle wire) drawn) ≡ map placed_of (users tests cycle wire)

-- a rectangle over all cycles of its test, in one lane
abbrev pub IsInLane : Drawn → Type 0
IsInLane d = (lane : ℕ) × (d ≡ drawn_over d.test lane (lane + 1))

-- the rectangles in the lanes are those of the self tests, each once, in any order
pub record AreLaned (drawn : List Drawn) (tests : List PlacedTest) : Type 0 where
  pub once : IsPermutation (filter is_self tests) (map drawn_test drawn)
  pub in_lanes : (i : ℕ) (d : Drawn) → slice_get drawn i ≡ Some d → IsInLane d

-- of rectangles one that comes next after another one in its band: it starts later, and none of the band starts between them
pub record ComesNext (drawn : List Drawn) (d e : Drawn) : Type 0 where
  pub same_band : band e ≡ band d
  pub later : d.rectangle.start < e.rectangle.start
  pub none_between : (k : ℕ) (f : Drawn) → slice_get drawn k ≡ Some f → band f ≡ band d → d.rectangle.start < f.rectangle.start →
      e.rectangle.start ≤ f.rectangle.start

-- next to each other in time in one band, or at any times in two bands beside each other
abbrev pub AreNeighbours : List Drawn → (d e : Drawn) → Type 0
AreNeighbours drawn d e = ComesNext drawn d e ⊎ (band e ≡ band d + 1)

-- neighbours never have one fill
abbrev pub AreToldApart : List Drawn → Type 0
AreToldApart drawn = (i j : ℕ) (d e : Drawn) → slice_get drawn i ≡ Some d → slice_get drawn j ≡ Some e → AreNeighbours drawn d e →
    fill_of drawn e ≢ fill_of drawn d

-- under a limit no step is above it
abbrev pub StaysWithin : LimitsValue → List (ℕ × ℕ) → Type 0
StaysWithin limits steps = (most i : ℕ) (s : ℕ × ℕ) → limits.power ≡ Some most → slice_get steps i ≡ Some s → s.1 ≤ most

-- in the text of an element, a byte that neither begins nor ends a tag
abbrev pub is_plain : ℕ → Bool
is_plain b = not (nat_eq b 60) && not (nat_eq b 62)

-- five to ten cycles are marked
pub record HasFewMarks (cycles : ℕ) : Type 0 where
  pub five : 5 ≤ length (marks_by (mark_step cycles) cycles)
  pub ten : length (marks_by (mark_step cycles) cycles) ≤ 10

-- the placed tests of a good plan
pub record AreTestsOf (soc : SocValue) (limits : LimitsValue) (plan : PlanValue) (tests : List PlacedTest) : Type 0 where
  pub sound_limits : IsSoundLimits soc limits
  pub good : IsGood soc limits plan
  pub placed : tests ≡ placed_tests soc plan

-- the parts of the picture of a plan; the steps are those of what is drawn where there is a limit
pub record AreParts (soc : SocValue) (limits : LimitsValue) (plan : PlanValue) (parts : Parts) : Type 0 where
  pub wires : parts.wires ≡ wires_panel plan.cycles limits.wires
  pub buses : between parts.firsts.items ≡ bus_wires plan
  pub wired_are : parts.wired.items ≡ wired (bus_wires plan) (placed_tests soc plan)
  pub lanes : parts.lanes ≡ lanes_of soc limits plan
  pub laned_are : parts.laned.items ≡ laned [] (self_tests soc plan)
  pub steps : (most : ℕ) → limits.power ≡ Some most → parts.steps.items ≡ plan_steps soc limits plan
  pub bottom : parts.bottom ≡ bottom_of (below (lanes_of soc limits plan)) plan.cycles limits.power
  pub small : parts.bottom ≤ 2 ^ 34
