-- What stands where a bit is driven or read, and by what the contents know a test.
use Rattle.std.specs.Prelude.{◌≡◌, ℕ, ◌+◌, ◌^◌, ◌<◌, Bool, if◌then◌else◌}
use Rattle.soc_model.specs.declared.TestId.{TestId}
use Rattle.plan_model.specs.Cells.{Cell}
use Rattle.plan_model.specs.Runs.{Content}

-- `0` or `1`
abbrev pub digit : Bool → ℕ
digit bit = if bit then 49 else 48

-- for each response bit, by its test, its pattern and its cell, the byte that stands where it is read
abbrev pub Marks : Type 0
Marks = TestId → ℕ → Cell → ℕ

-- the digit of each response bit
abbrev pub response_digits : Content → Marks
response_digits content id k x = digit (content.response id k x)

-- ---- contents by keys and numbers

-- the key of a live test, by the place of its module in the chip, its own place in its module, and its name
abbrev pub Keys : Type 0
Keys = ℕ → ℕ → TestId → ℕ

-- it is the key of some test
pub record IsKey (keys : Keys) (key : ℕ) : Type 0 where
  pub place : ℕ
  pub at : ℕ
  pub id : TestId
  pub is : key ≡ keys place at id

-- it is the value of some number that has a next one
pub record IsValue (values : ℕ → ℕ) (value : ℕ) : Type 0 where
  pub number : ℕ
  pub is : value ≡ values number
  pub fits : number + 1 < 2 ^ 64
