-- A text of which a front was written, and the rest waits to be.
use Rattle.std.specs.Prelude.{◌≡◌, ℕ, ◌++◌, List, Option}
use Rattle.outside.specs.Held.{Appended}

-- what was written since, and what waits behind it, are the whole
pub record IsUnderWay (old : Option (List ℕ)) (waits whole : List ℕ) (new : Option (List ℕ)) : Type 0 where
  pub front : List ℕ
  pub written : Appended old front new
  pub all : front ++ waits ≡ whole
