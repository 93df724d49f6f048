-- What is seen of a sink in memory.
use Rattle.std.specs.Prelude.{◌≡◌, ℕ, ◌-◌, ◌++◌, length, List, min, take, Bool, not, ◌||◌, ◌&&◌, nat_eq}
use Rattle.std.specs.Bool.{OnTrue, OnFalse}
use Rattle.outside.specs.declared.sink.Put.{Put}
use Rattle.outside.specs.declared.sink.Put.TheVariants.{Taken, Failed}
use Rattle.outside.specs.Counts.{next_count, is_listed}

-- what was written, how many bytes it takes in all and in one put, the numbers of the puts that are to fail, and the
-- counts of puts and of faults
pub record SinkState : Type 0 where
  pub written : List ℕ
  pub room : ℕ
  pub most : ℕ
  pub failing : List ℕ
  pub calls : ℕ
  pub faults : ℕ

-- how many bytes it still has room for
abbrev pub free_room : SinkState → ℕ
free_room s = s.room - length s.written

-- how many bytes it takes of a piece: as many as the piece has, one put may take and there is room for
abbrev pub share_of : SinkState → List ℕ → ℕ
share_of s piece = min (min (length piece) s.most) (free_room s)

-- whether a put of this piece fails: it is listed, or the piece has bytes and finds no room
abbrev pub fails_now : SinkState → List ℕ → Bool
fails_now s piece = is_listed s.failing s.calls || (nat_eq (free_room s) 0 && not (nat_eq (length piece) 0))

-- the sink after a put that failed
abbrev pub after_failing : SinkState → SinkState
after_failing s = record s { calls = next_count s.calls; faults = next_count s.faults }

-- the sink after a put that took its share of the piece
abbrev pub after_taking : SinkState → List ℕ → SinkState
after_taking s piece = record s { written = s.written ++ take (share_of s piece) piece; calls = next_count s.calls }

-- a put of this piece, with its answer and the sink after it
pub record IsPut (s : SinkState) (piece : List ℕ) (answer : Put) (after : SinkState) : Type 0 where
  pub fails : OnTrue (fails_now s piece) ((answer ≡ Failed) × (after ≡ after_failing s))
  pub takes : OnFalse (fails_now s piece) ((answer ≡ Taken (share_of s piece)) × (after ≡ after_taking s piece))
