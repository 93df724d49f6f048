-- What the pass over the starts of tests builds on.
use Rattle.std.specs.Prelude.{ℕ, List}
use Rattle.live_tests.specs.declared.placed.PlacedTest.{PlacedTest}
use Rattle.plan_checker.specs.declared.meetings.Begin.{Begin}
use Rattle.plan_checker.specs.Clashes.{ParentsFirst}
use Rattle.plan_checker.specs.Meetings.{AreSlots, AreBegins}

-- placed tests are found among `n` ends, begin as listed, and parents come first
pub record IsLayout (parents : List ℕ) (placed : List PlacedTest) (begins : List Begin) (n : ℕ) : Type 0 where
  pub slots : AreSlots parents placed n
  pub begins_are : AreBegins placed begins
  pub parents_first : ParentsFirst parents placed
