-- Puts of a whole text, one after another, given which puts there are: from a state, of a piece, with an answer, to a state.
use Rattle.std.specs.Prelude.{ℕ, ◌<◌, List, Bool, true, false, length, drop}
use Rattle.outside.specs.declared.sink.Put.{Put}
use Rattle.outside.specs.declared.sink.Put.TheVariants.{Taken, Failed}

-- Puts that took bytes, from a first state to this one, until these bytes are left. Each was of all that was left then, and
-- something was.
pub data PutDownTo {S : Type 0} (is_put : S → List ℕ → Put → S → Type 0) (first : S) (bytes : List ℕ) : S → List ℕ → Type 0 where
  begins : PutDownTo is_put first bytes first bytes
  takes : (before now : S) (left : List ℕ) (n : ℕ) → PutDownTo is_put first bytes before left → 0 < length left →
      is_put before left (Taken n) now → PutDownTo is_put first bytes now (drop n left)

-- puts that each took something, and then a put of what was left, which failed
pub record PutUntilFailed {S : Type 0} (is_put : S → List ℕ → Put → S → Type 0) (first : S) (bytes : List ℕ) (now : S) : Type 0 where
  pub before : S
  pub left : List ℕ
  pub puts : PutDownTo is_put first bytes before left
  pub some : 0 < length left
  pub failed : is_put before left Failed now

-- Puts one after another, from a first state to this one, of any pieces that aren't empty. The index says whether the last of them
-- failed: each before it took bytes, and none comes after one that failed.
pub data Puts {S : Type 0} (is_put : S → List ℕ → Put → S → Type 0) (first : S) : (failed : Bool) → S → Type 0 where
  begins : Puts is_put first false first
  takes : (before now : S) (piece : List ℕ) (n : ℕ) → Puts is_put first false before → 0 < length piece → 0 < n →
      is_put before piece (Taken n) now → Puts is_put first false now
  fails : (before now : S) (piece : List ℕ) → Puts is_put first false before → 0 < length piece →
      is_put before piece Failed now → Puts is_put first true now
