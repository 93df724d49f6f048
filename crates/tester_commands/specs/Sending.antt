-- Text that goes to an output through a block: what a call put into the block and out of it.
use Rattle.std.specs.Prelude.{◌≡◌, ℕ, ◌≤◌, ◌<◌, List, ◌++◌, true, false, Option, length, take}
use Rattle.outside.specs.Held.{Rose, Appended, AppendedFront}
use Rattle.outside.specs.Puts.{Puts}
use Rattle.outside.specs.declared.sink.Put.{Put}
use Rattle.tester_commands.specs.declared.blocks.Block.{Block}
use Rattle.tester_commands.specs.declared.TheConstants.{BLOCK}

-- a block has its length, and no more waits in it than that
pub record IsBlock (b : Block) : Type 0 where
  pub long : length b.bytes.items ≡ BLOCK
  pub within : b.used ≤ BLOCK

-- there is room for a byte
pub record HasRoom (b : Block) : Type 0 where
  pub long : length b.bytes.items ≡ BLOCK
  pub within : b.used < BLOCK

-- what waits in the block
abbrev pub waiting : Block → List ℕ
waiting b = take b.used b.bytes.items

-- Some of what waited before, and of a text behind it, was written, by puts of which none failed; the rest waits now.
pub record HasSent {S : Type 0} (is_put : S → List ℕ → Put → S → Type 0) (written : S → Option (List ℕ)) (first last : S)
    (before text after : List ℕ) : Type 0 where
  pub sent : List ℕ
  pub goes : Appended (written first) sent (written last)
  pub all : before ++ text ≡ sent ++ after
  pub puts : Puts is_put first false last

-- Some front of a text was written, and the last put failed.
pub record HasFailed {S : Type 0} (is_put : S → List ℕ → Put → S → Type 0) (written : S → Option (List ℕ)) (faults : S → ℕ)
    (first last : S) (text : List ℕ) : Type 0 where
  pub front : AppendedFront (written first) text (written last)
  pub fault : Rose (faults first) (faults last)
  pub puts : Puts is_put first true last
