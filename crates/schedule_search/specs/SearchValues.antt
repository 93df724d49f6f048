-- What a search is: a job, how many prefixes may be entered, and the closure that estimates.
use Rattle.std.specs.Prelude.{ℕ}
use Rattle.resource_table.specs.Jobs.{JobValue}

pub record SearchValue (F : Type 0) : Type 0 where
  pub job : JobValue
  pub budget : ℕ
  pub ahead : F
