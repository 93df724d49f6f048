-- What a chip and its limits say by the places of modules and live tests.
use Rattle.std.specs.Prelude.{◌≡◌}
use Rattle.soc_model.specs.Chips.{SocValue}
use Rattle.plan_model.specs.declared.Limits.{Limits}
use Rattle.plan_model.specs.Views.{limits_value}
use Rattle.plan_model.specs.Rules.{live_ids}
use Rattle.live_tests.specs.declared.resolved.Resolved.{Resolved}
use Rattle.live_tests.specs.Names.{precedences}
use Rattle.live_tests.specs.Parents.{AreParentPlaces}
use Rattle.live_tests.specs.Profiles.{AreProfilePlaces}

-- the live tests of the chip, the parents of its modules, the precedences of live tests by their places, and where profiles stand
pub record IsResolved (soc : SocValue) (limits : Limits) (r : Resolved) : Type 0 where
  pub tests : r.tests ≡ live_ids soc
  pub parents : AreParentPlaces soc r.parents.items
  pub precedences : r.precedences.items ≡ precedences soc (limits_value limits)
  pub profiles : AreProfilePlaces r.profiles limits.profiles.items
