-- What a long text is made of.
use Rattle.std.specs.Prelude.{ℕ, List}
use Rattle.soc_model.specs.Chips.{SocValue}
use Rattle.test_data.specs.DataWords.{EntryValue}
use Rattle.commands.specs.AcceptedPlans.{AcceptedValue}

-- a chip, whose test data is made from a seed
pub record DataRequestValue : Type 0 where
  pub soc : SocValue
  pub seed : ℕ

-- an accepted plan with test data
pub record DataRunValue : Type 0 where
  pub all : AcceptedValue
  pub entries : List EntryValue
