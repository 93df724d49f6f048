-- How a load in memory ends.
use Rattle.std.specs.Prelude.{◌≡◌, ◌≢◌, ℕ, List, [], Option, None, Some, length, MatchBool, nat_lt}
use Rattle.std.specs.Bool.{OnTrue, OnFalse}
use Rattle.std.specs.FinMap.{get}
use Rattle.outside.specs.Counts.{is_listed}
use Rattle.outside.specs.ShelfState.{ShelfState, after_load}
use Rattle.outside.specs.declared.shelf.Loaded.{Loaded}
use Rattle.outside.specs.declared.shelf.Loaded.TheVariants.{Whole, TooLong, Failed}

-- The answer for what the name holds, where the load isn't made to fail: Failed exactly where it holds nothing, TooLong exactly where
-- it holds more than `limit` bytes.
abbrev pub Answers : Option (List ℕ) → ℕ → Loaded → Type 0
Answers None limit answer = answer ≡ Failed
Answers (Some bytes) limit answer = (answer ≢ Failed) × MatchBool (nat_lt limit (length bytes)) (answer ≡ TooLong) (answer ≢ TooLong)

-- a load of this name within this limit, with its answer, the bytes that it gave and the shelf after it
pub record IsLoad (s : ShelfState) (name : List ℕ) (limit : ℕ) (answer : Loaded) (bytes : List ℕ) (after : ShelfState) : Type 0 where
  pub counted : after ≡ after_load s
  pub fails : OnTrue (is_listed s.failing s.calls) (answer ≡ Failed)
  pub answers : OnFalse (is_listed s.failing s.calls) (Answers (get s.files name) limit answer)
  pub whole : answer ≡ Whole → get s.files name ≡ Some bytes
  pub emptied : answer ≢ Whole → bytes ≡ []
