-- What the bound of a width tree is that is printed.
use Rattle.std.specs.Prelude.{ℕ, List, Option}
use Rattle.std.specs.FinMap.{get}
use Rattle.outside.specs.Held.{Files, Appended}
use Rattle.soc_model.specs.Chips.{SocValue}
use Rattle.plan_model.specs.Plans.{LimitsValue}
use Rattle.plan_model.specs.Rules.{IsBound}
use Rattle.width_tree.specs.Trees.{TreeValue}
use Rattle.width_tree.specs.Answers.{Says}
use Rattle.commands.specs.declared.FileKind.TheVariants.{Tree}
use Rattle.commands.specs.Readings.{IsRead}
use Rattle.commands.specs.Trusted.{IsChipIn, AreLimitsIn}
use Rattle.bound_commands.specs.TreeTexts.{bound_line}

-- The chip, the limits and the tree were read from the held files; no good plan of the chip under the limits has fewer cycles
-- than the tree claims; and that claim was written.
pub record IsShownBound (files : Files) (soc limits tree : List ℕ) (old new : Option (List ℕ)) : Type 0 where
  pub chip : SocValue
  pub bounds : LimitsValue
  pub value : TreeValue
  pub chip_read : IsChipIn files soc chip
  pub limits_read : AreLimitsIn files limits chip bounds
  pub tree_read : IsRead Tree Says (get files tree) value
  pub bound : IsBound chip bounds value.claimed
  pub written : Appended old (bound_line value) new
